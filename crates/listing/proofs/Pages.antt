-- The text of rows: of one more, of all, and of firings. Assumes nothing.
use Rattle.std.proofs.Common.{◌≡◌, ℕ, zero, suc, ◌<◌, ◌≤◌, min, List, [], ◌∷◌, ◌++◌, map, length, get_or, take, sym, refl, ap, ◌∙◌, append_assoc, arith}
use Rattle.std.proofs.lemmas.List.{append-nil}
use Rattle.queue.specs.declared.dues.Due.{Due}
use Rattle.listing.specs.Listing.{row_text, rows_text, firings_text}

pub rows_push : (i : ℕ) (ms ss : List ℕ) → i < length ms → i < length ss → rows_text (take (suc i) ms) (take (suc i) ss) ≡ rows_text (take i ms) (take i ss) ++ row_text (get_or ms i 0) (get_or ss i 0)
rows_push i [] ss h k = absurd (omega arith)
rows_push i (m ∷ ms) [] h k = absurd (omega arith)
rows_push zero (m ∷ ms) (s ∷ ss) h k = append-nil (row_text m s)
rows_push (suc i) (m ∷ ms) (s ∷ ss) h k =
    ap (λ x. row_text m s ++ x) (rows_push i ms ss (omega arith) (omega arith))
    ∙ sym (append_assoc (row_text m s) (rows_text (take i ms) (take i ss)) (row_text (get_or ms i 0) (get_or ss i 0)))

pub rows_all : (ms ss : List ℕ) (i : ℕ) → min (length ms) (length ss) ≤ i → rows_text (take i ms) (take i ss) ≡ rows_text ms ss
rows_all [] ss zero h = refl
rows_all [] ss (suc i) h = refl
rows_all (m ∷ ms) [] zero h = refl
rows_all (m ∷ ms) [] (suc i) h = refl
rows_all (m ∷ ms) (s ∷ ss) zero h = absurd (omega arith)
rows_all (m ∷ ms) (s ∷ ss) (suc i) h = ap (λ x. row_text m s ++ x) (rows_all ms ss i (omega arith))

pub rows_firings : (ds : List Due) → rows_text (map (λ d. d.moment) ds) (map (λ d. d.slot) ds) ≡ firings_text ds
rows_firings [] = refl
rows_firings (d ∷ ds) = ap (λ x. row_text d.moment d.slot ++ x) (rows_firings ds)
