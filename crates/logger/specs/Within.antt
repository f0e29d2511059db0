-- What keeps the sums of a logger within 64 bits: the jobs that stand are within their limits, and fire only once they are due.
-- Assumes nothing.
use Rattle.std.specs.Prelude.{ℕ, ◌≤◌, Bool, true, List}
use Rattle.std.specs.List.{list_all}
use Rattle.jobs.specs.declared.Slot.{Slot}
use Rattle.jobs.specs.declared.Slot.TheVariants.{Free, Standing, Waiting}
use Rattle.slots.specs.Limits.{kind_fits}

abbrev pub slot_fits : Slot → Bool
slot_fits Free = true
slot_fits (Standing due job errand) = kind_fits job.kind
slot_fits (Waiting due) = true

abbrev pub table_fits : List Slot → Bool
table_fits slots = list_all slot_fits slots

-- a slot that stands is due at moment s
abbrev pub Reached : ℕ → Slot → Type 0
Reached s Free = Unit {0}
Reached s (Standing due job errand) = due ≤ s
Reached s (Waiting due) = Unit {0}
