-- The calls of an alarm: each relates the clock and the appointment before and after, and the answer.
-- Assumes nothing.
use Rattle.std.specs.Prelude.{◌≡◌, ℕ, ◌<◌, Bool, [], Ok, Err, Option, Result, ◌≢◌}
use Rattle.fault.specs.declared.Fault.{Fault}
use Rattle.fault.specs.Table.{stray_sample}
use Rattle.clock.specs.Meaning.{Meaning, advanced}
use Rattle.clock.specs.declared.appointment.Appointment.{Appointment}
use Rattle.clock.specs.declared.appointment.Appointment.TheVariants.{Idle}
use Rattle.clock.specs.Appointment.{after_take, setting, told, left_by, stops, claims, after_claim}
use Rattle.clock.specs.Hold.{hold_of}

-- m and a are the clock and its appointment before the call, m' and a' after it
module _ {X : Type 0} (m : Meaning X) (a : Appointment) where
  -- the sample is the one shown at some distance below the reach; by the law of samples there is one such distance only
  pub record Accepted (sample : X) (gained : ℕ) (m' : Meaning X) (a' : Appointment) : Type 0 where
    pub ticks : ℕ
    pub within : ticks < m.reach
    pub shows : sample ≡ m.shown [] ticks
    pub gain : gained ≡ m.measure ticks
    pub clock : m' ≡ advanced m ticks
    pub appointment : a' ≡ after_take m.width m.reading gained a

  -- the sample is shown at no such distance, and nothing changes
  pub record Stray (sample : X) (fault : Fault) (m' : Meaning X) (a' : Appointment) : Type 0 where
    pub never : (d : ℕ) → d < m.reach → sample ≢ m.shown [] d
    pub why : fault ≡ stray_sample m.tag
    pub clock : m' ≡ m
    pub appointment : a' ≡ a

  abbrev pub Taken : X → Result ℕ Fault → Meaning X → Appointment → Type 0
  Taken sample (Ok gained) m' a' = Accepted sample gained m' a'
  Taken sample (Err fault) m' a' = Stray sample fault m' a'

  pub record SetTo (reference delay : ℕ) (r : Result (Unit {0}) Fault) (m' : Meaning X) (a' : Appointment) : Type 0 where
    pub answer : r ≡ told (setting m.width m.reading reference delay a)
    pub clock : m' ≡ m
    pub appointment : a' ≡ left_by (setting m.width m.reading reference delay a) a

  pub record StoppedBy (r : Bool) (m' : Meaning X) (a' : Appointment) : Type 0 where
    pub answer : r ≡ stops a
    pub clock : m' ≡ m
    pub appointment : a' ≡ Idle

  pub record ClaimedBy (r : Option ℕ) (m' : Meaning X) (a' : Appointment) : Type 0 where
    pub answer : r ≡ claims a
    pub clock : m' ≡ m
    pub appointment : a' ≡ after_claim a

  pub record HeldFor (r : ℕ) (m' : Meaning X) (a' : Appointment) : Type 0 where
    pub answer : r ≡ hold_of m a
    pub clock : m' ≡ m
    pub appointment : a' ≡ a
