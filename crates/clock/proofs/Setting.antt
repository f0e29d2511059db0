-- An appointment that is set from the present reading: it stands with its whole delay. Assumes nothing.
use Rattle.std.proofs.Common.{◌≡◌, ℕ, ◌+◌, ◌-◌, ◌^◌, ◌<◌, ◌≤◌, Bool, true, ◌&&◌, ltb, Result, Ok, Err, ap, ◌∙◌, ⊎_elim, arith}
use Rattle.std.proofs.Math.Nat.{mod_self}
use Rattle.std.proofs.lemmas.Bool.{lt-ltb, le-ltb, and_from, and_right, cond-true, cond-false, cases_lt}
use Rattle.fault.specs.declared.Fault.{Fault}
use Rattle.fault.specs.Table.{alarm_limits}
use Rattle.clock.specs.declared.appointment.Appointment.{Appointment}
use Rattle.clock.specs.declared.appointment.Appointment.TheVariants.{Idle, Standing}
use Rattle.clock.specs.Wrap.{minus}
use Rattle.clock.specs.Meaning.{Meaning, Lawful}
use Rattle.clock.specs.Appointment.{setting, told, left_by}
use Rattle.clock.specs.Hold.{wait_for}
use Rattle.clock.specs.Calls.{StoppedBy, SetTo, HeldFor}
use Rattle.clock.proofs.Waiting.{wait_never, turn_never}

-- no time has passed since the present reading
pub no_age : (w reading : ℕ) → reading < 2 ^ w → minus w reading reading ≡ 0
no_age w reading h =
    let e : reading + (2 ^ w - reading) ≡ 2 ^ w = omega arith in
    rw e (mod_self (2 ^ w))

module _ (w reading left : ℕ) (fits : reading < 2 ^ w) where
  pub set_now : 0 < left → left < 2 ^ w → setting w reading reading left Idle ≡ Ok (Standing left)
  set_now some near =
      let test : (ltb reading (2 ^ w) && ltb left (2 ^ w)) ≡ true = and_from _ _ (lt-ltb _ _ fits) (lt-ltb _ _ near) in
      let young : ltb (minus w reading reading) left ≡ true = rw (no_age w reading fits) (lt-ltb 0 left some) in
      cond-true _ _ _ test
      ∙ ap (λ (a : Appointment). Ok a) (cond-true _ _ _ young ∙ ap (λ n. Standing n) (omega (arith, no_age w reading fits)))

  pub set_too_far : 2 ^ w ≤ left → setting w reading reading left Idle ≡ Err alarm_limits
  set_too_far far = cond-false _ _ _ (and_right _ _ (le-ltb _ _ far))

-- a stop, a set from the present reading, and what that says of the clock
module _ {X : Type 0} (m₀ m₁ m₂ : Meaning X) (a₀ a₁ a₂ : Appointment) (b : Bool) (reading left : ℕ)
    (law : Lawful m₀) (stopped : StoppedBy m₀ a₀ b m₁ a₁) (is : reading ≡ m₁.reading) where
  here : reading ≡ m₀.reading
  here = is ∙ ap (λ (m : Meaning X). m.reading) stopped.clock

  same_setting : setting m₁.width m₁.reading reading left a₁ ≡ setting m₀.width m₀.reading m₀.reading left Idle
  same_setting = rw (stopped.clock, stopped.appointment, here)

  -- accepted: the alarm's hold is the wait
  pub held : (wait : ℕ) (m₃ : Meaning X) (a₃ : Appointment) → 0 < left → SetTo m₁ a₁ reading left (Ok tt) m₂ a₂ → HeldFor m₂ a₂ wait m₃ a₃
      → wait ≡ wait_for m₀ left
  held wait m₃ a₃ some set hold = ⊎_elim near far (cases_lt left (2 ^ m₀.width))
    where
      near : left < 2 ^ m₀.width → wait ≡ wait_for m₀ left
      near h =
          let standing : a₂ ≡ Standing left =
          set.appointment ∙ ap (λ r. left_by r a₁) (same_setting ∙ set_now m₀.width m₀.reading left law.reading_fits some h) in
          let clock : m₂ ≡ m₀ = set.clock ∙ stopped.clock in
          hold.answer ∙ rw (standing, clock)

      far : 2 ^ m₀.width ≤ left → wait ≡ wait_for m₀ left
      far h =
          let r : Ok tt ≡ Err alarm_limits = set.answer ∙ ap told (same_setting ∙ set_too_far m₀.width m₀.reading left law.reading_fits h) in
          cc

  -- refused: what is left lies beyond the reach
  pub beyond : (f : Fault) → 0 < left → SetTo m₁ a₁ reading left (Err f) m₂ a₂ → wait_for m₀ left ≡ m₀.reach - 1
  beyond f some set = ⊎_elim near far (cases_lt left (2 ^ m₀.width))
    where
      near : left < 2 ^ m₀.width → wait_for m₀ left ≡ m₀.reach - 1
      near h =
          let r : Err f ≡ Ok tt = set.answer ∙ ap told (same_setting ∙ set_now m₀.width m₀.reading left law.reading_fits some h) in
          cc

      far : 2 ^ m₀.width ≤ left → wait_for m₀ left ≡ m₀.reach - 1
      far h = wait_never m₀ left (turn_never m₀ left law h)

  pub idle_still : (f : Fault) → SetTo m₁ a₁ reading left (Err f) m₂ a₂ → a₂ ≡ Idle
  idle_still f set = kept (setting m₁.width m₁.reading reading left a₁) set.answer set.appointment ∙ stopped.appointment
    where
      kept : (r : Result Appointment Fault) → Err f ≡ told r → a₂ ≡ left_by r a₁ → a₂ ≡ a₁
      kept (Ok a) e k = let z : ◌≡◌ {A = ℕ} 0 1 = cc in absurd (omega arith)
      kept (Err f') e k = k
