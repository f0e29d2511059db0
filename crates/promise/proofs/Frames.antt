-- What a step leaves of number, table size, moment and stack. Assumes nothing.
use Rattle.std.proofs.Common.{◌≡◌, ℕ, ◌+◌, length, Some, None, Ok, Err, Option, Result, refl, arith}
use Rattle.std.proofs.lemmas.Grind.{common_steps}
use Rattle.fault.specs.declared.Fault.{Fault}
use Rattle.clock.specs.Meaning.{Meaning, advanced}
use Rattle.jobs.specs.declared.Slot.{Slot}
use Rattle.jobs.specs.declared.Slot.TheVariants.{Free, Standing}
use Rattle.jobs.specs.declared.Job.{Job}
use Rattle.jobs.specs.declared.Firing.{Firing}
use Rattle.logger.specs.State.{Log, slot_of, with_slot}
use Rattle.slots.specs.Slots.{once_job, set_up_slot, fired}
use Rattle.logger.specs.Calls.{after_set_up, freed, after_next}
use Rattle.promise.specs.Runs.{Event, serve, set_up, errand, call_off, settle, next, hold, Step}
use Rattle.promise.specs.Words.{Reading, reading, moved}

-- the stack after an accepted serve, or as it was
abbrev pub stack_by : {X : Type 0} → Meaning X → Option Reading → Meaning X
stack_by m None = m
stack_by m (Some r) = advanced m r.ticks

-- the ticks that the stack gains
abbrev pub gained : {X : Type 0} → Meaning X → Option Reading → ℕ
gained m None = 0
gained m (Some r) = m.measure r.ticks

pub record Frame {X : Type 0} (l : Log X) (e : Event X) (m : Log X) : Type 0 where
  pub number : m.number ≡ l.number
  pub size : length m.slots ≡ length l.slots
  pub moment : m.moment ≡ moved l.moment (reading e)
  pub stack : m.stack ≡ stack_by l.stack (reading e)
  pub gain : m.moment ≡ l.moment + gained l.stack (reading e)

module _ {X : Type 0} (l : Log X) (e : Event X) (m : Log X) where
  frame_same : reading e ≡ None → m ≡ l → Frame l e m
  frame_same none after = grind (arith, common_steps)

  frame_slot : (k : ℕ) (slot : Slot) → reading e ≡ None → m ≡ with_slot l k slot → Frame l e m
  frame_slot k slot none after = grind (arith, common_steps)

  frame_set_up : (k : ℕ) (job : Job) (b : mathlib.Core.Bool.Bool) (r : Result ℕ Fault) → reading e ≡ None → m ≡ after_set_up l k job b r → Frame l e m
  frame_set_up k job b (Ok due) none after = frame_slot k (Standing due job b) none after
  frame_set_up k job b (Err f) none after = frame_same none after

  frame_freed : {Y : Type 0} (k : ℕ) (r : Result Y Fault) → reading e ≡ None → m ≡ freed l k r → Frame l e m
  frame_freed k (Ok y) none after = frame_slot k Free none after
  frame_freed k (Err f) none after = frame_same none after

  frame_next : (r : Option Firing) → reading e ≡ None → m ≡ after_next l r → Frame l e m
  frame_next None none after = frame_same none after
  frame_next (Some f) none after = frame_slot f.slot (fired (slot_of l f.slot)) none after

frame_serve : {X : Type 0} (l m : Log X) (d : ℕ) (x : X) (r : Result ℕ Fault) → Step l (serve d x r) m → Frame l (serve d x r) m
frame_serve {X} l m d x (Ok t) a = grind (arith, common_steps)
frame_serve l m d x (Err f) a = frame_same l (serve d x (Err f)) m refl a.after

pub framed : {X : Type 0} (l m : Log X) (e : Event X) → Step l e m → Frame l e m
framed l m (serve d x r) a = frame_serve l m d x r a
framed l m (set_up k reference delay job r) a = frame_set_up l _ m k job _ r refl a.after
framed l m (errand k reference delay action r) a =
    frame_set_up l _ m k (once_job action) _ (set_up_slot l.moment k (slot_of l k) reference delay (once_job action)) refl a.after
framed l m (call_off k r) a = frame_freed l _ m k r refl a.after
framed l m (settle ticket r) a = frame_freed l _ m ticket.slot r refl a.after
framed l m (next r) a = frame_next l _ m r refl a.after
framed l m (hold n) a = frame_same l _ m refl a.after
