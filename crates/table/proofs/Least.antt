-- The first of a table's records is the firing that comes soonest. Assumes nothing.
use Rattle.std.proofs.Common.{◌≡◌, ℕ, suc, ◌<◌, Bool, true, false, cond, leb, List, [], ◌∷◌, Some, None, Option, refl, ap, ◌∙◌, arith}
use Rattle.std.specs.Ordering.{is_lt}
use Rattle.std.proofs.lemmas.Bool.Decides.{nat_tests}
use Rattle.queue.specs.declared.dues.Due.{Due}
use Rattle.queue.specs.Due.{due_compare, due_order}
use Rattle.queue.specs.Order.{inserted, in_order}
use Rattle.queue.specs.Row.{first}
use Rattle.queue.proofs.DueOrder.{due_strict}
use Rattle.queue.proofs.Sorted.{in_order_cons}
use Rattle.jobs.specs.declared.Slot.{Slot}
use Rattle.jobs.specs.declared.Slot.TheVariants.{Free, Standing, Waiting}
use Rattle.jobs.specs.declared.Firing.{Firing}
use Rattle.table.specs.Table.{sooner, soonest}
use Rattle.table.specs.Dues.{standing_dues, ready, ready_slot}
use Rattle.table.proofs.Soonest.{Answer, answered}

abbrev pub as_due : Firing → Due
as_due f = record { moment = f.due; slot = f.slot }

abbrev pub its_due : Option Firing → Option Due
its_due None = None
its_due (Some f) = Some (as_due f)

-- the first of a list after d was put in
abbrev front : Due → Option Due → Option Due
front d None = Some d
front d (Some e) = cond (is_lt (due_compare d e)) (Some d) (Some e)

first_inserted : (d : Due) (ys : List Due) → first (inserted due_compare d ys) ≡ front d (first ys)
first_inserted d [] = refl
first_inserted d (y ∷ ys) =
    elim (is_lt (due_compare d y)) as (λ b. first (cond b (d ∷ (y ∷ ys)) (y ∷ inserted due_compare d ys)) ≡ cond b (Some d) (Some y))
    [ true ↦ refl | false ↦ refl ]

-- of two firings the first comes before a later slot's unless that is due earlier
front_by : (f g : Firing) → f.slot < g.slot → (b : Bool) → leb f.due g.due ≡ b
    → cond (is_lt (due_compare (as_due f) (as_due g))) (Some (as_due f)) (Some (as_due g)) ≡ its_due (cond b (Some f) (Some g))
front_by f g low true t = grind (arith, nat_tests)
front_by f g low false t = grind (arith, nat_tests)

front_is : (s j : ℕ) (f : Firing) (rest : List Slot) → f.slot ≡ j → (o : Option Firing) → Answer s (suc j) rest o
    → front (as_due f) (its_due o) ≡ its_due (sooner (Some f) o)
front_is s j f rest e None a = refl
front_is s j f rest e (Some g) best = front_by f g (omega (arith, best.number)) (leb f.due g.due) refl

first_due : (s j : ℕ) (slots : List Slot) → first (in_order due_compare (standing_dues j slots)) ≡ its_due (soonest s j slots)
first_due s j [] = refl
first_due s j (Free ∷ rest) = first_due s (suc j) rest
first_due s j (Standing due job errand ∷ rest) =
    let d : Due = record { moment = due; slot = j } in
    let f : Firing = record { slot = j; due = due; at = s; action = job.action } in
    ap first (in_order_cons due_order due_strict d (standing_dues (suc j) rest))
    ∙ first_inserted d (in_order due_compare (standing_dues (suc j) rest))
    ∙ ap (front d) (first_due s (suc j) rest)
    ∙ front_is s j f rest refl (soonest s (suc j) rest) (answered s (suc j) rest)
first_due s j (Waiting due ∷ rest) = first_due s (suc j) rest

pub ready_is : (s : ℕ) (slots : List Slot) → ready_slot s slots ≡ ready s (its_due (soonest s 0 slots))
ready_is s slots = ap (ready s) (first_due s 0 slots)
