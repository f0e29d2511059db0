-- What the program answers to a call of an alarm: just what the alarm answered, and the alarm is as that call leaves it; and what to a line that fails.
-- Assumes nothing.
use Rattle.std.specs.Prelude.{◌≡◌, ℕ, Bool, Ok, Err, Option, Result}
use Rattle.fault.specs.declared.Fault.{Fault}
use Rattle.clock.specs.declared.appointment.Appointment.{Appointment}
use Rattle.clock.specs.Meaning.{Meaning}
use Rattle.clock.specs.Calls.{Taken, SetTo, StoppedBy, ClaimedBy, HeldFor}
use Rattle.std.specs.declared.io.Error.{Error}
use Rattle.answers.specs.declared.Answer.{Answer}
use Rattle.answers.specs.declared.Answer.TheVariants as says
use Rattle.answers.specs.declared.AlarmAnswer.TheVariants as alarm
use Rattle.replay.specs.declared.call.Call.{Call}
use Rattle.replay.specs.declared.call.Call.TheVariants as asks
use Rattle.replay.specs.declared.failure.Failure.{Failure}
use Rattle.replay.specs.declared.failure.Failure.TheVariants as fails

abbrev pub took : Result ℕ Fault → Answer
took (Ok gained) = says.Alarm (alarm.Took gained)
took (Err fault) = says.Refused fault

abbrev pub was_set : Result (Unit {0}) Fault → Answer
was_set (Ok done) = says.Alarm alarm.Set
was_set (Err fault) = says.Refused fault

module _ {X : Type 0} (m : Meaning X) (a : Appointment) where
  abbrev pub Answers : Call X → Answer → Meaning X → Appointment → Type 0
  Answers asks.Width r m' a' = (r ≡ says.Alarm (alarm.Width m.width)) × (m' ≡ m) × (a' ≡ a)
  Answers asks.Reach r m' a' = (r ≡ says.Alarm (alarm.Reach m.reach)) × (m' ≡ m) × (a' ≡ a)
  Answers asks.Reading r m' a' = (r ≡ says.Alarm (alarm.Reading m.reading)) × (m' ≡ m) × (a' ≡ a)
  Answers (asks.Take sample) r m' a' = (t : Result ℕ Fault) × (r ≡ took t) × Taken m a sample t m' a'
  Answers (asks.Set reference delay) r m' a' = (t : Result (Unit {0}) Fault) × (r ≡ was_set t) × SetTo m a reference delay t m' a'
  Answers asks.Stop r m' a' = (t : Bool) × (r ≡ says.Alarm (alarm.Stopped t)) × StoppedBy m a t m' a'
  Answers asks.Claim r m' a' = (t : Option ℕ) × (r ≡ says.Alarm (alarm.Claimed t)) × ClaimedBy m a t m' a'
  Answers asks.Hold r m' a' = (t : ℕ) × (r ≡ says.Hold t) × HeldFor m a t m' a'

-- a refused call is answered with its fault
abbrev pub told : Result Answer Fault → Answer
told (Ok answer) = answer
told (Err fault) = says.Refused fault

-- what a line is answered that failed
abbrev pub Fails : Failure → ℕ → Result Answer Error → Type 0
Fails fails.NotUnderstood line r = r ≡ Ok (says.NotUnderstood line)
Fails (fails.Refused fault) line r = r ≡ Ok (told (Err fault))
Fails (fails.Io error) line r = r ≡ Err error
