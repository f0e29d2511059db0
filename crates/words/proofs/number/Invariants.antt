use Rattle.std.proofs.Common.{◌≡◌, ◌-◌, ◌^◌, min, true, take}
use Rattle.words.specs.Number.{digits, value_after}
use Rattle.words.proofs.number.Given as goal

abbrev pub invariant-loop-b : goal.invariant-loop-b
invariant-loop-b l = (l.n ≡ min (value_after 0 (take l.b-index l.word)) (2 ^ 64 - 1)) × (digits (take l.b-index l.word) ≡ true)
