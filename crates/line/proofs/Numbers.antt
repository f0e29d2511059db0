-- A number and its digits: one reads as the other. Assumes nothing.
use Rattle.std.proofs.Common.{◌≡◌, ℕ, ◌+◌, ◌-◌, ◌^◌, ◌<◌, min, Bool, true, false, cond, not, ◌&&◌, eqb, List, [], ◌∷◌, length, get_or, Some, None, decimal, sym, refl, ap, ◌∙◌, ⊎_elim, arith, rules}
use Rattle.std.proofs.lemmas.Fmt.{decimal_digit, decimal_nonempty, first_decimal, digits_decimal, digits_value-decimal, decimal-digits_value}
use Rattle.std.proofs.lemmas.Str.Parse.{IsNumeralModel, numerals_by_fold}
use Rattle.std.proofs.lemmas.Bool.{and_from, and_parts, cond-true, ne_eqb, eqb-false, not-true, cases_eq}
use Rattle.words.specs.Number.{digits, value_after, plain, number_of}

pub own : IsNumeralModel (λ ds. digits ds ≡ true) (value_after 0)
own = numerals_by_fold _ (search rules) value_after (search rules)

plain_from : (ds : List ℕ) → 0 < length ds → 48 < get_or ds 0 0 → plain ds ≡ true
plain_from [] h f = absurd (omega arith)
plain_from (b ∷ []) h f = refl
plain_from (b ∷ (c ∷ bs)) h f = ap not (ne_eqb b 48 (λ e. omega arith))

plain_decimal : (n : ℕ) → n < 2 ^ 64 → plain (decimal n) ≡ true
plain_decimal n h =
    ⊎_elim
    (λ z. let e : decimal n ≡ 48 ∷ [] = decimal_digit n (omega arith) ∙ ap (λ m. (48 + m) ∷ []) z in rw e)
    (λ nz. let pos : 0 < n = omega arith in plain_from (decimal n) (decimal_nonempty n h) (first_decimal n pos h))
    (cases_eq n 0)

pub number_decimal : (n : ℕ) → n < 2 ^ 64 → number_of (decimal n) ≡ Some n
number_decimal n h =
    let v : value_after 0 (decimal n) ≡ n = digits_value-decimal own n h in
    let m : min (value_after 0 (decimal n)) (2 ^ 64 - 1) ≡ n = omega arith in
    cond-true _ _ _ (and_from _ _ (plain_decimal n h) (digits_decimal own n h)) ∙ ap (λ x. Some x) m

some_back : (t : Bool) (m n : ℕ) → cond t (Some m) None ≡ Some n → (t ≡ true) × (m ≡ n)
some_back true m n e = (refl, cc)
some_back false m n e = absurd cc

plain_some : (ds : List ℕ) → plain ds ≡ true → 0 < length ds
plain_some [] h = absurd cc
plain_some (b ∷ bs) h = omega arith

plain_first : (ds : List ℕ) → plain ds ≡ true → get_or ds 0 0 ≡ 48 → length ds ≡ 1
plain_first [] h e = absurd cc
plain_first (b ∷ []) h e = refl
plain_first (b ∷ (c ∷ bs)) h e = absurd (eqb-false b 48 (not-true (eqb b 48) h) e)

pub number_back : (w : List ℕ) (n : ℕ) → number_of w ≡ Some n → n < 2 ^ 64 - 1 → w ≡ decimal n
number_back w n e h =
    let p = some_back (plain w && digits w) _ n e in
    let q = and_parts (plain w) (digits w) p.0 in
    let v : value_after 0 w ≡ n = omega (arith, p.1) in
    sym (decimal-digits_value own w q.1 (plain_some w q.0) (plain_first w q.0) (omega arith)) ∙ ap decimal v
