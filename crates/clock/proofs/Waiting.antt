-- The first number that passes a test, and how a measure grows. Assumes nothing.
use Rattle.std.proofs.Common.{◌≡◌, ℕ, zero, suc, ◌+◌, ◌-◌, ◌^◌, ◌<◌, ◌≤◌, min, Bool, true, false, leb, ◌⊎◌, refl, sym, ap, ◌∙◌, inl, inr, ⊎_elim, add-suc, add-one, arith}
use Rattle.std.proofs.lemmas.Bool.{leb-true, leb-false, le-leb, lt-leb, cases_lt, cases_eq}
use Rattle.clock.specs.Meaning.{Meaning, Counts, Lawful}
use Rattle.clock.specs.declared.appointment.Appointment.{Appointment}
use Rattle.clock.specs.declared.appointment.Appointment.TheVariants.{Idle, Standing, Due}
use Rattle.clock.specs.Hold.{first_from, wait_for, Least, Never, Waits}

-- every number from d up to e fails the test
abbrev pub Fails : (ℕ → Bool) → ℕ → ℕ → Type 0
Fails test d e = (k : ℕ) → d ≤ k → k < e → test k ≡ false

from_here : {test : ℕ → Bool} (d : ℕ) → test d ≡ false → (e : ℕ) → Fails test (suc d) e → Fails test d e
from_here {test} d here e fails k low high =
    ⊎_elim (λ (same : k ≡ d). rw same here) (λ (other : k ≡ d → ⊥). fails k (omega arith) high) (cases_eq k d)

module _ (test : ℕ → Bool) (fallback : ℕ) where
  -- one step, by the outcome of the first test
  step_true : (d n : ℕ) → test d ≡ true → first_from test fallback d (suc n) ≡ d
  unfolding first_from
  step_true d n e = rw (e, first_from)

  step_false : (d n : ℕ) → test d ≡ false → first_from test fallback d (suc n) ≡ first_from test fallback (suc d) n
  unfolding first_from
  step_false d n e = rw (e, first_from)

  step_none : (d : ℕ) → first_from test fallback d 0 ≡ fallback
  unfolding first_from
  step_none d = refl

  pub first_at : (n d e : ℕ) → d ≤ e → e < d + n → test e ≡ true → Fails test d e → first_from test fallback d n ≡ e
  first_at zero d e low high passes fails = absurd (omega arith)
  first_at (suc n) d e low high passes fails =
      ⊎_elim
      (λ (same : d ≡ e). step_true d n (rw same passes) ∙ same)
      (λ (other : d ≡ e → ⊥).
      let less : d < e = omega arith in
      step_false d n (fails d (omega arith) less)
      ∙ first_at n (suc d) e less (omega (arith, add-suc d n)) passes (λ k h. fails k (omega arith)))
      (cases_eq d e)

  pub first_none : (n d : ℕ) → Fails test d (d + n) → first_from test fallback d n ≡ fallback
  first_none zero d fails = step_none d
  first_none (suc n) d fails =
      step_false d n (fails d (omega arith) (omega arith))
      ∙ first_none n (suc d) (λ k low high. fails k (omega arith) (omega arith))

-- either some number passes, and none before it, or none of them does
Found : (ℕ → Bool) → ℕ → ℕ → Type 0
Found test d n = ((e : ℕ) × (d ≤ e) × (e < d + n) × (test e ≡ true) × Fails test d e) ⊎ Fails test d (d + n)

scan : (test : ℕ → Bool) (n d : ℕ) → Found test d n
unfolding Found
scan test zero d = inr (λ k low high. absurd (omega arith))
scan test (suc n) d = at (test d) refl (scan test n (suc d))
  where
    later : test d ≡ false → Found test (suc d) n → Found test d (suc n)
    later here (inl (e, low, high, passes, fails)) = inl (e, omega arith, omega arith, passes, from_here d here e fails)
    later here (inr fails) = inr (from_here d here (d + suc n) (λ k low high. fails k low (omega arith)))

    at : (b : Bool) → test d ≡ b → Found test (suc d) n → Found test d (suc n)
    at true e rest = inl (d, omega arith, omega arith, e, λ k low high. absurd (omega arith))
    at false e rest = later e rest

-- a measure never runs ahead of the true ticks
pub measure_le : {g : ℕ → ℕ} → Counts g → (d : ℕ) → g d ≤ d
measure_le c zero = omega (arith, c.nought)
measure_le {g} c (suc d) = rw (← add-one) (omega (arith, measure_le c d, c.slow d))

module _ {X : Type 0} (m : Meaning X) (left : ℕ) where
  pub wait_least : (d : ℕ) → Least m left d → wait_for m left ≡ d
  wait_least d l =
      first_at _ _ m.reach 0 d (omega arith) (omega (arith, l.within)) (le-leb left _ l.come) (λ k low high. lt-leb left _ (l.first k high))

  pub wait_never : Never m left → wait_for m left ≡ m.reach - 1
  wait_never n = first_none _ _ m.reach 0 (λ k low high. lt-leb left _ (n k (omega arith)))

  -- the law of a wait
  pub waits : Waits m left (wait_for m left)
  unfolding Found
  waits = told (scan (λ d. leb left (m.measure d)) m.reach 0)
    where
      told : Found (λ d. leb left (m.measure d)) 0 m.reach → Waits m left (wait_for m left)
      told (inl (e, low, high, passes, fails)) =
          let l : Least m left e = record {
            within = omega arith;
            come = leb-true left _ passes;
            first = λ d h. leb-false left _ (fails d (omega arith) h);
          } in
          inl (rw (wait_least e l) l)
      told (inr fails) =
          let n : Never m left = λ d h. leb-false left _ (fails d (omega arith) (omega arith)) in
          inr (n, wait_never n)

  -- a clock cannot gain a whole turn within its reach
  pub turn_never : Lawful m → 2 ^ m.width ≤ left → Never m left
  turn_never law far d h = omega (arith, measure_le law.counts d, law.reach_fits)

pub wait_nought : {X : Type 0} (m : Meaning X) → Lawful m → wait_for m 0 ≡ 0
wait_nought m law = wait_least m 0 0 (record { within = omega (arith, law.reach_low); come = omega arith; first = λ d h. absurd (omega arith) })

-- a clock that gains each tick waits for what is left, capped below the reach
pub steady_wait : {X : Type 0} (m : Meaning X) (left : ℕ) → ((d : ℕ) → m.measure d ≡ d) → min left (m.reach - 1) ≡ wait_for m left
steady_wait m left steady = ⊎_elim near far (cases_lt left m.reach)
  where
    near : left < m.reach → min left (m.reach - 1) ≡ wait_for m left
    near h =
        let least : Least m left left = record {
          within = h;
          come = omega (arith, steady left);
          first = λ d small. omega (arith, steady d);
        } in
        let capped : min left (m.reach - 1) ≡ left = omega arith in
        capped ∙ sym (wait_least m left left least)

    far : m.reach ≤ left → min left (m.reach - 1) ≡ wait_for m left
    far h =
        let capped : min left (m.reach - 1) ≡ m.reach - 1 = omega arith in
        capped ∙ sym (wait_never m left (λ d small. omega (arith, steady d)))

-- one tick for each true tick
pub each_tick : Counts (λ d. d)
each_tick = record { nought = refl; grows = λ d. omega arith; slow = λ d. omega arith }
