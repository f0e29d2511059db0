-- How many true ticks may pass before the next take, so that an appointment is met on its tick; and what makes that number the least.
-- Assumes nothing.
use Rattle.std.specs.Prelude.{◌≡◌, ℕ, zero, suc, ◌-◌, ◌<◌, ◌≤◌, Bool, true, false, ◌⊎◌, nat_le}
use Rattle.clock.specs.Meaning.{Meaning}
use Rattle.clock.specs.declared.appointment.Appointment.{Appointment}
use Rattle.clock.specs.declared.appointment.Appointment.TheVariants.{Idle, Standing, Due}

-- the first of the n numbers from d on that passes the test, or else the fallback
unfoldable pub first_from : (ℕ → Bool) → ℕ → ℕ → ℕ → ℕ
first_from test fallback d zero = fallback
first_from test fallback d (suc n) = elim (test d) [ true ↦ d | false ↦ first_from test fallback (suc d) n ]

-- the least d below the reach at which the measure has come to what is left, or the reach less one where there is none
abbrev pub wait_for : {X : Type 0} → Meaning X → ℕ → ℕ
wait_for m left = first_from (λ d. nat_le left (m.measure d)) (m.reach - 1) 0 m.reach

abbrev pub hold_of : {X : Type 0} → Meaning X → Appointment → ℕ
hold_of m Idle = m.reach - 1
hold_of m (Standing left) = wait_for m left
hold_of m (Due point) = 0

-- wait is the least number of true ticks, below the reach, in which the clock gains what is left
pub record Least {X : Type 0} (m : Meaning X) (left wait : ℕ) : Type 0 where
  pub within : wait < m.reach
  pub come : left ≤ m.measure wait
  pub first : (d : ℕ) → d < wait → m.measure d < left

-- no number of true ticks below the reach is enough
abbrev pub Never : {X : Type 0} → Meaning X → ℕ → Type 0
Never m left = (d : ℕ) → d < m.reach → m.measure d < left

-- the law of a wait: it is the least, or the reach less one where none is enough
abbrev pub Waits : {X : Type 0} → Meaning X → ℕ → ℕ → Type 0
Waits m left wait = Least m left wait ⊎ (Never m left × (wait ≡ m.reach - 1))
