use Rattle.std.proofs.Common.{◌≡◌, map, length, take}
use Rattle.jobs.specs.Jobs.{is_free}
use Rattle.script.proofs.loading.free_slots.Given as goal

abbrev pub invariant-loop-i : goal.invariant-loop-i
invariant-loop-i l = (take l.i l.free ≡ map is_free (take l.i l.slots)) × (length l.free ≡ 32)
