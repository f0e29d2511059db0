-- A slice's lookups, as lookups in its list. Assumes nothing.
use Rattle.std.proofs.Common.{◌≡◌, ℕ, ◌-◌, ◌<◌, List, [], ◌∷◌, reverse, length, get_or, Some, None, Option, sym, refl, ap, ◌∙◌, arith, Bor}
use Rattle.std.specs.List.{slice_get}
use Rattle.std.specs.Option.{option_map}
use Rattle.std.specs.Slice.{IsGetResult}
use Rattle.std.proofs.lemmas.List.{get_or-reverse, length-reverse, nil_from_length}
use Rattle.std.proofs.lemmas.Option.{slice_get-get_or, slice_get_past}
use Rattle.queue.specs.Row.{first}

-- what `get` lends, copied
pub nth_from_item : {X : Type 0} (xs : List X) (i : ℕ) (r : Option (Bor X)) → IsGetResult xs i i r → option_map (λ x. x.now) r ≡ slice_get xs i
nth_from_item xs i None h = sym (slice_get_past xs i h.3)
nth_from_item xs i (Some x) h = sym (slice_get-get_or xs i x.now h.3.0 ∙ ap Some (sym (h.3.1 x.now)))

first_is_nth : {X : Type 0} (xs : List X) → first xs ≡ slice_get xs 0
first_is_nth [] = refl
first_is_nth (x ∷ xs) = refl

first_reversed : {X : Type 0} (xs : List X) (d : X) → 0 < length xs → first (reverse xs) ≡ Some (get_or xs (length xs - 1) d)
first_reversed xs d h =
    let k : 0 < length (reverse xs) = omega (arith, length-reverse xs) in
    let e : length xs - 1 - 0 ≡ length xs - 1 = omega arith in
    first_is_nth (reverse xs) ∙ slice_get-get_or (reverse xs) 0 d k ∙ ap Some (get_or-reverse xs 0 d h ∙ ap (λ i. get_or xs i d) e)

-- what `last` lends, copied
pub first_from_last : {X : Type 0} (xs : List X) (r : Option (Bor X)) → IsGetResult xs 0 (length xs - 1) r → option_map (λ x. x.now) r ≡ first (reverse xs)
first_from_last xs None h =
    let e : length xs ≡ 0 = omega (arith, h.3) in
    ap (λ ys. first (reverse ys)) (sym (nil_from_length xs e))
first_from_last xs (Some x) h = sym (first_reversed xs x.now h.3.0 ∙ ap Some (sym (h.3.1 x.now)))
