-- What a look at one slot answers: its state, or that there is no such slot.
-- Assumes nothing.
use Rattle.std.specs.Prelude.{ℕ, cond, List, Ok, Err, Result, nat_lt, slice_index_or}
use Rattle.fault.specs.declared.Fault.{Fault}
use Rattle.fault.specs.Table.{no_slot}
use Rattle.jobs.specs.declared.Slot.{Slot}
use Rattle.jobs.specs.declared.Slot.TheVariants.{Free}

abbrev pub look_answer : List Slot → ℕ → Result Slot Fault
look_answer slots j = cond (nat_lt 31 j) (Err (no_slot j)) (Ok (slice_index_or slots j Free))
