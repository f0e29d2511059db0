-- The calls of a logger: each relates the log before and after, and the answer. A refused call leaves the log as it was.
-- Assumes nothing.
use Rattle.std.specs.Prelude.{◌≡◌, ℕ, ◌+◌, ◌-◌, ◌^◌, ◌<◌, ◌≤◌, Bool, true, false, cond, ◌⊎◌, [], length, Some, None, Ok, Err, Option, Result, ◌==◌, ◌≢◌, nat_le}
use Rattle.fault.specs.declared.Fault.{Fault}
use Rattle.fault.specs.Table.{moment_limit, stray_sample, foreign_ticket}
use Rattle.clock.specs.Meaning.{Meaning, advanced}
use Rattle.clock.specs.Hold.{wait_for, Waits}
use Rattle.jobs.specs.declared.Slot.TheVariants.{Free, Standing}
use Rattle.jobs.specs.declared.Job.{Job}
use Rattle.jobs.specs.declared.Action.{Action}
use Rattle.jobs.specs.declared.Firing.{Firing}
use Rattle.logger.specs.declared.ticket.Ticket.{Ticket}
use Rattle.jobs.specs.declared.Outcome.{Outcome}
use Rattle.logger.specs.State.{Log, slot_of, with_slot}
use Rattle.slots.specs.Slots.{once_job, set_up_slot, call_off_slot, settle_slot, fired, coming, distance}
use Rattle.table.specs.Table.{soonest, nearest}

-- a logger past this moment serves no more, so that the moment stays below 2^62
abbrev pub last_served : ℕ
last_served = 2 ^ 62 - 2 ^ 32

-- the log after an accepted sample, d true ticks after the one before
abbrev pub served : {X : Type 0} → Log X → ℕ → Log X
served l d = record {
  number = l.number;
  moment = l.moment + l.stack.measure d;
  slots = l.slots;
  stack = advanced l.stack d;
}

-- the log after a set-up or an errand
abbrev pub after_set_up : {X : Type 0} → Log X → ℕ → Job → Bool → Result ℕ Fault → Log X
after_set_up l j job errand (Ok due) = with_slot l j (Standing due job errand)
after_set_up l j job errand (Err fault) = l

-- an accepted errand gives a ticket in place of its due moment
abbrev pub ticketed : {X : Type 0} → Log X → ℕ → Result ℕ Fault → Result Ticket Fault
ticketed l j (Ok due) = Ok (record { number = l.number; slot = j; spent = false })
ticketed l j (Err fault) = Err fault

abbrev pub settle_answer : {X : Type 0} → Log X → Ticket → Result Outcome Fault
settle_answer l ticket =
    cond (ticket.number == l.number) (settle_slot ticket.slot (slot_of l ticket.slot))
    (Err (foreign_ticket ticket.slot))

-- the log after a call-off or a settle
abbrev pub freed : {X Y : Type 0} → Log X → ℕ → Result Y Fault → Log X
freed l j (Ok y) = with_slot l j Free
freed l j (Err fault) = l

abbrev pub if_due : Option Firing → Option Firing
if_due None = None
if_due (Some f) = cond (nat_le f.due f.at) (Some f) None

abbrev pub next_answer : {X : Type 0} → Log X → Option Firing
next_answer l = if_due (soonest l.moment 0 l.slots)

abbrev pub after_next : {X : Type 0} → Log X → Option Firing → Log X
after_next l None = l
after_next l (Some f) = with_slot l f.slot (fired (slot_of l f.slot))

-- no tick may pass while a standing slot is due, which its distance of nought says
abbrev pub held_for : {X : Type 0} → Meaning X → Option ℕ → ℕ
held_for m None = m.reach - 1
held_for m (Some left) = cond (left == 0) 0 (wait_for m left)

abbrev pub hold_answer : {X : Type 0} → Log X → ℕ
hold_answer l = held_for l.stack (nearest l.moment l.slots)

-- l is the log before the call, l' after it
module _ {X : Type 0} (l : Log X) where
  pub record Accepted (d : ℕ) (sample : X) (moment : ℕ) (l' : Log X) : Type 0 where
    pub early : l.moment ≤ last_served
    pub within : d < l.stack.reach
    pub shows : sample ≡ l.stack.shown [] d
    pub answer : moment ≡ l.moment + l.stack.measure d
    pub after : l' ≡ served l d

  -- the sample is shown at no distance below the reach
  abbrev pub Stray : X → Type 0
  Stray sample = (d : ℕ) → d < l.stack.reach → sample ≢ l.stack.shown [] d

  -- the moment is judged before the sample
  pub record Refused (sample : X) (fault : Fault) (l' : Log X) : Type 0 where
    pub why : ((last_served < l.moment) × (fault ≡ moment_limit)) ⊎ ((l.moment ≤ last_served) × Stray sample × (fault ≡ stray_sample l.stack.tag))
    pub after : l' ≡ l

  -- d is the number of true ticks since the last accepted sample, or since the making
  abbrev pub Served : ℕ → X → Result ℕ Fault → Log X → Type 0
  Served d sample (Ok moment) l' = Accepted d sample moment l'
  Served d sample (Err fault) l' = Refused sample fault l'

  pub record SetUp (j reference delay : ℕ) (job : Job) (r : Result ℕ Fault) (l' : Log X) : Type 0 where
    pub answer : r ≡ set_up_slot l.moment j (slot_of l j) reference delay job
    pub after : l' ≡ after_set_up l j job false r

  pub record Erranded (j reference delay : ℕ) (action : Action) (r : Result Ticket Fault) (l' : Log X) : Type 0 where
    pub answer : r ≡ ticketed l j (set_up_slot l.moment j (slot_of l j) reference delay (once_job action))
    pub after : l' ≡ after_set_up l j (once_job action) true (set_up_slot l.moment j (slot_of l j) reference delay (once_job action))

  pub record CalledOff (j : ℕ) (r : Result ℕ Fault) (l' : Log X) : Type 0 where
    pub answer : r ≡ call_off_slot j (slot_of l j)
    pub after : l' ≡ freed l j r

  -- the ticket is gone in any case
  pub record Settled (ticket : Ticket) (r : Result Outcome Fault) (l' : Log X) : Type 0 where
    pub answer : r ≡ settle_answer l ticket
    pub after : l' ≡ freed l ticket.slot r

  pub record Nexted (r : Option Firing) (l' : Log X) : Type 0 where
    pub answer : r ≡ next_answer l
    pub after : l' ≡ after_next l r

  pub record Held (n : ℕ) (l' : Log X) : Type 0 where
    pub answer : n ≡ hold_answer l
    pub after : l' ≡ l

  -- the law of next: f is due, no standing slot is due earlier, and no lower one as early
  pub record First (f : Firing) : Type 0 where
    pub within : f.slot < length l.slots
    pub stands : coming l.moment f.slot (slot_of l f.slot) ≡ Some f
    pub due : f.due ≤ l.moment
    pub least : (k : ℕ) (g : Firing) → coming l.moment k (slot_of l k) ≡ Some g → f.due ≤ g.due
    pub lowest : (k : ℕ) (g : Firing) → k < f.slot → coming l.moment k (slot_of l k) ≡ Some g → f.due < g.due

  -- and where next answers none, nothing is due
  abbrev pub Quiet : Type 0
  Quiet = (k : ℕ) (g : Firing) → coming l.moment k (slot_of l k) ≡ Some g → l.moment < g.due

  abbrev pub NextLaw : Option Firing → Type 0
  NextLaw None = Quiet
  NextLaw (Some f) = First f

  -- of the standing slots one is this far off, and none nearer
  pub record Closest (left : ℕ) : Type 0 where
    pub place : ℕ
    pub stands : distance l.moment (slot_of l place) ≡ Some left
    pub least : (k n : ℕ) → distance l.moment (slot_of l k) ≡ Some n → left ≤ n

  -- the law of hold: the reach less one while no slot stands, nought while one is due, otherwise the wait for what is left to the closest
  abbrev pub HoldLaw : ℕ → Type 0
  HoldLaw n =
      (((k : ℕ) → distance l.moment (slot_of l k) ≡ None) × (n ≡ l.stack.reach - 1))
      ⊎ ((left : ℕ) × Closest left × (((left ≡ 0) × (n ≡ 0)) ⊎ ((0 < left) × Waits l.stack left n)))
