-- The standing slots of a table as due records, in the order in which they come due; and one record more or less among them.
-- Assumes nothing.
use Rattle.std.specs.Prelude.{ℕ, suc, cond, List, [], ◌∷◌, ◌++◌, Some, None, Option, nat_le}
use Rattle.queue.specs.declared.dues.Due.{Due}
use Rattle.queue.specs.Due.{due_compare}
use Rattle.queue.specs.Row.{first}
use Rattle.queue.specs.Order.{inserted, without, in_order}
use Rattle.jobs.specs.declared.Slot.{Slot}
use Rattle.jobs.specs.declared.Slot.TheVariants.{Free, Standing, Waiting}

-- the record of slot j, where it stands
abbrev pub due_of : ℕ → Slot → Option Due
due_of j Free = None
due_of j (Standing due job errand) = Some (record { moment = due; slot = j })
due_of j (Waiting due) = None

abbrev pub listed : Option Due → List Due
listed None = []
listed (Some d) = d ∷ []

-- the records of the slots, which are numbered from j on
abbrev pub standing_dues : ℕ → List Slot → List Due
standing_dues j [] = []
standing_dues j (slot ∷ slots) = listed (due_of j slot) ++ standing_dues (suc j) slots

-- the records of a whole table, the earliest first, the lower slot on a tie
abbrev pub planned : List Slot → List Due
planned slots = in_order due_compare (standing_dues 0 slots)

-- a record put in, and one taken out, where there is one
abbrev pub noted : Option Due → List Due → List Due
noted None dues = dues
noted (Some d) dues = inserted due_compare d dues

abbrev pub forgotten : Option Due → List Due → List Due
forgotten None dues = dues
forgotten (Some d) dues = without due_compare d dues

-- the slot of a record that is due at moment s
abbrev pub ready : ℕ → Option Due → Option ℕ
ready s None = None
ready s (Some d) = cond (nat_le d.moment s) (Some d.slot) None

-- the slot of a table to fire at moment s, where one is due
abbrev pub ready_slot : ℕ → List Slot → Option ℕ
ready_slot s slots = ready s (first (planned slots))
