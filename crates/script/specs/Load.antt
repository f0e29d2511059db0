-- Loading a script into a logger: all its lines are set up at the logger's moment, or none.
-- Assumes nothing.
use Rattle.std.specs.Prelude.{ℕ, ◌+◌, Bool, false, List, [], ◌∷◌, map, Ok, Err, Result}
use Rattle.fault.specs.declared.Fault.{Fault}
use Rattle.logger.specs.State.{Log, with_slot}
use Rattle.jobs.specs.Jobs.{is_free}
use Rattle.jobs.specs.declared.Slot.{Slot}
use Rattle.jobs.specs.declared.Slot.TheVariants.{Standing}
use Rattle.line.specs.declared.line.Line.{Line}
use Rattle.line.specs.Line.{◌>>=◌}
use Rattle.script.specs.Script.{script_of}

abbrev pub free_slots : List Slot → List Bool
free_slots slots = map is_free slots

-- the lines of a script, for this log
abbrev pub lines_for : {X : Type 0} → Log X → List ℕ → Result (List Line) Fault
lines_for l text = script_of (free_slots l.slots) text

-- each line's slot stands, first due its delay after the log's moment
abbrev pub set_up_all : {X : Type 0} → Log X → List Line → Log X
set_up_all l [] = l
set_up_all l (line ∷ lines) = set_up_all (with_slot l line.slot (Standing (l.moment + line.delay) line.job false)) lines

abbrev pub load_answer : Result (List Line) Fault → Result (Unit {0}) Fault
load_answer r = do
  ls ← r
  Ok tt

abbrev pub after_load : {X : Type 0} → Log X → Result (List Line) Fault → Log X
after_load l (Ok ls) = set_up_all l ls
after_load l (Err fault) = l
