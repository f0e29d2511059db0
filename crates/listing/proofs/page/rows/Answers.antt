use Rattle.std.proofs.Common.{◌≡◌, List, ℕ, [], ◌∷◌, ◌++◌, length, refl, sym, ap, ◌∙◌, ◌⊎◌, inl, inr, ⊎_elim, arith}
use Rattle.std.specs.Iterator.Adapters.{zip_first, zip_second}
use Rattle.std.specs.Slice.Iter.{iter_rest}
use Rattle.std.proofs.lemmas.List.{append-nil}
use Rattle.listing.specs.Listing.{rows_text}
use Rattle.listing.proofs.page.rows.Goals as goal

-- one of the rows is at its end
no_rows : (moments slots : List ℕ) → (length moments ≡ 0) ⊎ (length slots ≡ 0) → rows_text moments slots ≡ []
no_rows [] slots h = refl
no_rows (m ∷ moments) [] h = refl
no_rows (m ∷ moments) (s ∷ slots) h = absurd (⊎_elim (λ e. omega arith) (λ e. omega arith) h)

pub returns : goal.returns
returns c =
    let page = c.loop-moment.page.bytes in
    let none = no_rows (iter_rest (zip_first c.loop-moment.moment-iterator)) (iter_rest (zip_second c.loop-moment.moment-iterator))
    (⊎_elim (λ m. inl m.1.0) (λ s. inr s.1.0) c.in-None.ensures.steps) in
    sym (append-nil page) ∙ ap (λ x. page ++ x) (sym none) ∙ c.loop-moment.invariant.0
