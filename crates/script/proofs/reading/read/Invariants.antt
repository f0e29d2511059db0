use Rattle.std.proofs.Common.{◌≡◌, ◌+◌, ◌-◌, ◌≤◌, length, drop}
use Rattle.words.specs.Cuts.{cut}
use Rattle.script.specs.Lines.{lines_of}
use Rattle.script.specs.Script.{script_from, script_of}
use Rattle.script.proofs.Laws.{frees}
use Rattle.script.proofs.Pieces.{prefixed}
use Rattle.script.proofs.reading.read.Given as goal

-- what was read stands before what the rest is read as; a line was read for each slot that was taken
abbrev pub invariant-loop-byte : goal.invariant-loop-byte
invariant-loop-byte l = record {
  answer : script_of l.free l.text ≡ prefixed (lines_of l.script) (script_from (length (lines_of l.script) + 1) l.byte l.open (cut 10 (drop l.byte l.text)));
  within : l.byte ≤ length l.text;
  room : length (lines_of l.script) + frees l.open ≤ 32;
  slots : length l.open ≡ 32;
}

abbrev pub decreases-loop-byte : goal.decreases-loop-byte
decreases-loop-byte l = length l.text - l.byte
