-- The records of a table when one slot changes: the old one's record goes out, the new one's comes in. Assumes nothing.
use Rattle.std.proofs.Common.{◌≡◌, ℕ, suc, ◌+◌, ◌<◌, ◌≤◌, List, [], ◌∷◌, ◌++◌, length, get_or, take, drop, set, Some, None, Option, sym, refl, ap, ◌∙◌, add-zero, zero-add, arith}
use mathlib.Core.Logic.{∥∥₁_elim}
use base.Stored.{Coded-set, coded_list}
use Rattle.std.proofs.lemmas.List.{append_assoc, length-append, length-take-le, length-drop, set-get_or, set_split}
use Rattle.queue.specs.declared.dues.Due.{Due}
use Rattle.queue.specs.contracts.dues.Due.{the_row}
use Rattle.queue.specs.Due.{due_compare, due_order}
use Rattle.queue.specs.Order.{in_order}
use Rattle.queue.proofs.DueOrder.{due_strict}
use Rattle.queue.proofs.Ordered.{length_added}
use Rattle.queue.proofs.Sorted.{in_order_middle, without_in_order}
use Rattle.jobs.specs.declared.Slot.{Slot}
use Rattle.jobs.specs.declared.Slot.TheVariants.{Free}
use Rattle.table.specs.Dues.{due_of, listed, standing_dues, planned, noted, forgotten}

-- ---- an equation that a ghost field holds

pub dues_same : {xs ys : List Due} → ∥ xs ≡ ys ∥₁ → xs ≡ ys
dues_same {xs} {ys} h = ∥∥₁_elim h (Coded-set (coded_list the_row.coded) xs ys) (λ e. e)

-- ---- one record more or less

put_in : (o : Option Due) (xs ys : List Due) → in_order due_compare (xs ++ (listed o ++ ys)) ≡ noted o (in_order due_compare (xs ++ ys))
put_in None xs ys = refl
put_in (Some d) xs ys = in_order_middle due_order due_strict xs d ys

take_out : (o : Option Due) (xs ys : List Due) → forgotten o (in_order due_compare (xs ++ (listed o ++ ys))) ≡ in_order due_compare (xs ++ ys)
take_out None xs ys = refl
take_out (Some d) xs ys = without_in_order due_order due_strict xs d ys

-- ---- the records of a table

dues_append : (i : ℕ) (xs ys : List Slot) → standing_dues i (xs ++ ys) ≡ standing_dues i xs ++ standing_dues (i + length xs) ys
dues_append i [] ys = ap (λ n. standing_dues n ys) (sym (add-zero i))
dues_append i (x ∷ xs) ys =
    let n : suc i + length xs ≡ i + suc (length xs) = omega arith in
    ap (λ l. listed (due_of i x) ++ l) (dues_append (suc i) xs ys ∙ ap (λ m. standing_dues (suc i) xs ++ standing_dues m ys) n)
    ∙ sym (append_assoc (listed (due_of i x)) (standing_dues (suc i) xs) (standing_dues (i + suc (length xs)) ys))

listed_short : (o : Option Due) → length (listed o) ≤ 1
listed_short None = omega arith
listed_short (Some d) = omega arith

dues_short : (i : ℕ) (xs : List Slot) → length (standing_dues i xs) ≤ length xs
dues_short i [] = omega arith
dues_short i (x ∷ xs) =
    omega (arith, length-append (listed (due_of i x)) (standing_dues (suc i) xs), listed_short (due_of i x), dues_short (suc i) xs)

module _ (slots : List Slot) (j : ℕ) where
  before : List Due
  before = standing_dues 0 (take j slots)

  after : List Due
  after = standing_dues (suc j) (drop (suc j) slots)

  -- the records of all slots but j
  pub others : List Due
  others = in_order due_compare (before ++ after)

  split_at : (x : Slot) → j < length slots → standing_dues 0 (set slots j x) ≡ before ++ (listed (due_of j x) ++ after)
  unfolding before after
  split_at x in' =
      let n : 0 + length (take j slots) ≡ j = zero-add (length (take j slots)) ∙ length-take-le j slots (omega arith) in
      ap (standing_dues 0) (set_split slots j x in')
      ∙ dues_append 0 (take j slots) (x ∷ drop (suc j) slots)
      ∙ ap (λ m. standing_dues 0 (take j slots) ++ standing_dues m (x ∷ drop (suc j) slots)) n

  pub planned_set : (x : Slot) → j < length slots → planned (set slots j x) ≡ noted (due_of j x) others
  unfolding others
  planned_set x in' = ap (in_order due_compare) (split_at x in') ∙ put_in (due_of j x) before after

  pub planned_less : j < length slots → forgotten (due_of j (get_or slots j Free)) (planned slots) ≡ others
  unfolding others
  planned_less in' =
      let old = get_or slots j Free in
      ap (λ l. forgotten (due_of j old) (planned l)) (sym (set-get_or slots j Free))
      ∙ ap (λ l. forgotten (due_of j old) (in_order due_compare l)) (split_at old in')
      ∙ take_out (due_of j old) before after

  pub others_short : j < length slots → length slots ≤ 32 → length others < 32
  unfolding others before after
  others_short in' small =
      omega (
        arith,
        length_added due_order [] (before ++ after),
        length-append before after,
        dues_short 0 (take j slots),
        dues_short (suc j) (drop (suc j) slots),
        length-take-le j slots (omega arith),
        length-drop (suc j) slots,
      )
