-- The lead, case by case, and what becomes of it the other way round. Assumes nothing.
use Rattle.std.proofs.Common.{◌≡◌, ℕ, ◌+◌, ◌-◌, ◌%◌, ◌^◌, ◌<◌, ◌≤◌, true, false, ◌&&◌, ltb, leb, ◌⊎◌, ℤ, pos, negsuc, ◌-ℤ◌, neg_ℤ, Ok, Err, Result, sym, ap, ◌∙◌, subst, inl, inr, ⊎_elim, mod-lt, arith, pow_pos, pow-add}
use Rattle.std.proofs.Math.Bool.{and_comm}
use Rattle.std.proofs.lemmas.Int.{ints}
use Rattle.std.proofs.lemmas.Bool.{lt-ltb, le-ltb, le-leb, leb-true, ltb-true, and_from, and_parts, cond-true, cond-false, cases_Bool, cases_eq, cases_order, both_ways as both-tests}
use Rattle.fault.specs.declared.Fault.{Fault}
use Rattle.fault.specs.Table.{bad_lead_width, lead_limits, half_turn}
use Rattle.clock.specs.Wrap.{plus, minus}
use Rattle.clock.specs.Lead.{lead_at, lead_of, turned, Reaches, Serial}
use Rattle.clock.proofs.Wrapping.{wrapped, add_cancel, there}

pub two_halves : (w : ℕ) → 1 ≤ w → 2 ^ (w - 1) + 2 ^ (w - 1) ≡ 2 ^ w
two_halves w some =
    let e : w - 1 + 1 ≡ w = omega arith in
    let p = pow-add 2 (w - 1) 1 in
    omega (arith, ap (λ n. 2 ^ n) e)

-- the way up and the way down make a turn, unless there is no way at all
pub both_ways : (n a b : ℕ) → a < n → b < n
    → (((a + (n - b)) % n ≡ 0) × ((b + (n - a)) % n ≡ 0))
    ⊎ ((0 < (a + (n - b)) % n) × (0 < (b + (n - a)) % n) × ((a + (n - b)) % n + (b + (n - a)) % n ≡ n))
both_ways n a b ha hb =
    let up = wrapped n (a + (n - b)) (omega arith) in
    let down = wrapped n (b + (n - a)) (omega arith) in
    ⊎_elim
    (λ (e : a ≡ b). inl (omega arith, omega arith))
    (λ (e : a ≡ b → ⊥). inr (omega arith, omega arith, omega arith))
    (cases_eq a b)

-- the three answers, by the way up
module _ (half d : ℕ) where
  at_less : d < half → lead_at half d ≡ Ok (pos d)
  at_less h = cond-true _ _ _ (lt-ltb _ _ h)

  at_more : half < d → lead_at half d ≡ Ok (pos d -ℤ pos (half + half))
  at_more h = cond-false _ _ _ (le-ltb d half (omega arith)) ∙ cond-true _ _ _ (lt-ltb _ _ h)

  at_half : d ≡ half → lead_at half d ≡ Err half_turn
  at_half e = cond-false _ _ _ (le-ltb d half (omega arith)) ∙ cond-false _ _ _ (le-ltb half d (omega arith))

at_turned : (half d e : ℕ) → 0 < d → 0 < e → d + e ≡ half + half → turned (lead_at half d) ≡ lead_at half e
at_turned half d e up down whole =
    ⊎_elim
    (λ (h : d ≡ half). ap turned (at_half half d h) ∙ sym (at_half half e (omega arith)))
    (⊎_elim
    (λ (h : d < half).
    let z : neg_ℤ (pos d) ≡ pos e -ℤ pos (half + half) = omega (arith, ints) in
    ap turned (at_less half d h) ∙ ap (λ (x : ℤ). Ok x) z ∙ sym (at_more half e (omega arith)))
    (λ (h : half < d).
    let z : neg_ℤ (pos d -ℤ pos (half + half)) ≡ pos e = omega (arith, ints) in
    ap turned (at_more half d h) ∙ ap (λ (x : ℤ). Ok x) z ∙ sym (at_less half e (omega arith))))
    (cases_order d half)

module _ (w a b : ℕ) where
  pub lead_inside : 2 ≤ w → w ≤ 48 → a < 2 ^ w → b < 2 ^ w → lead_of w a b ≡ lead_at (2 ^ (w - 1)) (minus w a b)
  lead_inside low high ha hb =
      cond-true _ _ _ (and_from _ _ (le-leb 2 w low) (le-leb w 48 high)) ∙ cond-true _ _ _ (and_from _ _ (lt-ltb a (2 ^ w) ha) (lt-ltb b (2 ^ w) hb))

-- a law of the lead is shown for readings within the limits, and for the two refusals outside them
module _ (w a b : ℕ) (Law : Result ℤ Fault → Type 0)
    (inside : 2 ≤ w → w ≤ 48 → a < 2 ^ w → b < 2 ^ w → Law (lead_at (2 ^ (w - 1)) (minus w a b)))
    (over : (2 ≤ w → w ≤ 48 → a < 2 ^ w → b < 2 ^ w → ⊥) → (leb 2 w && leb w 48) ≡ true → (ltb a (2 ^ w) && ltb b (2 ^ w)) ≡ false → Law (Err lead_limits))
    (narrow : (2 ≤ w → w ≤ 48 → a < 2 ^ w → b < 2 ^ w → ⊥) → (leb 2 w && leb w 48) ≡ false → Law (Err bad_lead_width)) where
  pub by_limits : Law (lead_of w a b)
  by_limits = ⊎_elim wide outside (cases_Bool (leb 2 w && leb w 48))
    where
      outside : (leb 2 w && leb w 48) ≡ false → Law (lead_of w a b)
      outside e =
          subst Law (sym (cond-false _ _ _ e))
          (narrow (λ low high ha hb. both-tests _ e (and_from _ _ (le-leb 2 w low) (le-leb w 48 high))) e)

      wide : (leb 2 w && leb w 48) ≡ true → Law (lead_of w a b)
      wide e = ⊎_elim fits beyond (cases_Bool (ltb a (2 ^ w) && ltb b (2 ^ w)))
        where
          fits : (ltb a (2 ^ w) && ltb b (2 ^ w)) ≡ true → Law (lead_of w a b)
          fits f =
              let width = and_parts _ _ e in
              let readings = and_parts _ _ f in
              subst Law (sym (cond-true _ _ _ e ∙ cond-true _ _ _ f))
              (inside (leb-true 2 w width.0) (leb-true w 48 width.1) (ltb-true a (2 ^ w) readings.0) (ltb-true b (2 ^ w) readings.1))

          beyond : (ltb a (2 ^ w) && ltb b (2 ^ w)) ≡ false → Law (lead_of w a b)
          beyond f =
              subst Law (sym (cond-true _ _ _ e ∙ cond-false _ _ _ f))
              (over (λ low high ha hb. both-tests _ f (and_from _ _ (lt-ltb a (2 ^ w) ha) (lt-ltb b (2 ^ w) hb))) e f)

-- the other way round: the other sign, or the same refusal
pub lead_turned : (w a b : ℕ) → turned (lead_of w a b) ≡ lead_of w b a
lead_turned w a b = by_limits w a b (λ r. turned r ≡ lead_of w b a) inside (λ out e f. sym (beyond e f)) (λ out e. sym (cond-false _ _ _ e))
  where
    beyond : (leb 2 w && leb w 48) ≡ true → (ltb a (2 ^ w) && ltb b (2 ^ w)) ≡ false → lead_of w b a ≡ Err lead_limits
    beyond e f = cond-true _ _ _ e ∙ cond-false _ _ _ (and_comm (ltb b (2 ^ w)) (ltb a (2 ^ w)) ∙ f)

    inside : 2 ≤ w → w ≤ 48 → a < 2 ^ w → b < 2 ^ w → turned (lead_at (2 ^ (w - 1)) (minus w a b)) ≡ lead_of w b a
    inside low high ha hb =
        let end : lead_of w b a ≡ lead_at (2 ^ (w - 1)) (minus w b a) = lead_inside w b a low high hb ha in
        ⊎_elim
        (λ (none : (minus w a b ≡ 0) × (minus w b a ≡ 0)).
        let p = pow_pos (w - 1) in
        ap (λ n. turned (lead_at (2 ^ (w - 1)) n)) none.0 ∙ ap turned (at_less (2 ^ (w - 1)) 0 p) ∙ sym (at_less (2 ^ (w - 1)) 0 p) ∙ ap (lead_at (2 ^ (w - 1))) (sym none.1) ∙ sym end)
        (λ (both : (0 < minus w a b) × (0 < minus w b a) × (minus w a b + minus w b a ≡ 2 ^ w)).
        at_turned (2 ^ (w - 1)) (minus w a b) (minus w b a) both.0 both.1 (both.2 ∙ sym (two_halves w (omega arith))) ∙ sym end)
        (both_ways (2 ^ w) a b ha hb)

-- a lead is the number to add, and at half a turn there is none
pub lead_serial : (w a b : ℕ) → Serial w a b (lead_of w a b)
lead_serial w a b = by_limits w a b (Serial w a b) inside (λ out e f low high ha hb n h. out low high ha hb) (λ out e low high ha hb n h. out low high ha hb)
  where
    inside : 2 ≤ w → w ≤ 48 → a < 2 ^ w → b < 2 ^ w → Serial w a b (lead_at (2 ^ (w - 1)) (minus w a b))
    inside low high ha hb =
        let d = minus w a b in
        let halves = two_halves w (omega arith) in
        let up = there (2 ^ w) a b ha hb in
        let down = there (2 ^ w) b a hb ha in
        ⊎_elim
        (λ (h : d ≡ 2 ^ (w - 1)).
        let both : d + minus w b a ≡ 2 ^ w = ⊎_elim
        (λ (none : (minus w a b ≡ 0) × (minus w b a ≡ 0)). absurd (omega (arith, none.0, pow_pos (w - 1))))
        (λ (both : (0 < minus w a b) × (0 < minus w b a) × (minus w a b + minus w b a ≡ 2 ^ w)). both.2)
        (both_ways (2 ^ w) a b ha hb) in
        subst (Serial w a b) (sym (at_half (2 ^ (w - 1)) d h))
        (λ low' high' ha' hb' n. ⊎_elim
        (λ (r : Reaches w b n a). omega (arith, r.0, add_cancel (2 ^ w) b d n hb (omega arith) (omega (arith, r.0)) (sym up ∙ r.1)))
        (λ (r : Reaches w a n b). omega (arith, r.0, add_cancel (2 ^ w) a (minus w b a) n ha (omega arith) (omega (arith, r.0)) (sym down ∙ r.1)))))
        (⊎_elim
        (λ (h : d < 2 ^ (w - 1)). subst (Serial w a b) (sym (at_less (2 ^ (w - 1)) d h)) (h, up))
        (λ (h : 2 ^ (w - 1) < d).
        let both : d + minus w b a ≡ 2 ^ w = ⊎_elim
        (λ (none : (minus w a b ≡ 0) × (minus w b a ≡ 0)). absurd (omega (arith, none.0, pow_pos (w - 1))))
        (λ (both : (0 < minus w a b) × (0 < minus w b a) × (minus w a b + minus w b a ≡ 2 ^ w)). both.2)
        (both_ways (2 ^ w) a b ha hb) in
        let less : d < 2 ^ w = mod-lt _ (pow_pos w) in
        let z : pos d -ℤ pos (2 ^ (w - 1) + 2 ^ (w - 1)) ≡ negsuc (minus w b a - 1) = omega (arith, ints) in
        let same : minus w b a - 1 + 1 ≡ minus w b a = omega arith in
        subst (Serial w a b) (sym (at_more (2 ^ (w - 1)) d h ∙ ap (λ (x : ℤ). Ok x) z)) (omega arith, down ∙ ap (plus w a) (sym same))))
        (cases_order d (2 ^ (w - 1)))
