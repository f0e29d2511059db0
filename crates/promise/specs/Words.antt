-- The words of the promise: what two runs share and what is seen of one slot, due moments, set up at, reached by, reported at, held.
-- Assumes nothing.
use Rattle.std.specs.Prelude.{◌≡◌, ℕ, suc, ◌+◌, ◌*◌, ◌<◌, ◌≤◌, Bool, true, false, ◌&&◌, List, [], ◌∷◌, length, take, Some, None, Ok, Err, Option, Result, ◌==◌}
use Rattle.std.specs.List.{slice_get}
use Rattle.fault.specs.declared.Fault.{Fault}
use Rattle.jobs.specs.declared.Job.{Job}
use Rattle.jobs.specs.declared.Kind.{Kind}
use Rattle.jobs.specs.declared.Kind.TheVariants.{Once, Every, Burst}
use Rattle.jobs.specs.declared.Action.{Action}
use Rattle.jobs.specs.declared.Firing.{Firing}
use Rattle.logger.specs.declared.ticket.Ticket.{Ticket}
use Rattle.jobs.specs.declared.Outcome.{Outcome}
use Rattle.slots.specs.Slots.{once_job}
use Rattle.promise.specs.Runs.{Event, serve, set_up, errand, call_off, settle, next, hold}

abbrev pub when : {B : Type 0} → Bool → B → Option B
when true b = Some b
when false b = None

abbrev pub listed : {B : Type 0} → Option B → List B → List B
listed None ys = ys
listed (Some y) ys = y ∷ ys

-- what the elements of a list bring, in order
abbrev pub brought : {A B : Type 0} → (A → Option B) → List A → List B
brought f [] = []
brought f (x ∷ xs) = listed (f x) (brought f xs)

-- what two runs share: the moments read and a slot's calls between them, a settle being by a ticket with the slot and the logger's number
pub data Shared : Type 0 where
  moment_read : ℕ → Shared
  asks_set_up : ℕ → ℕ → Job → Shared
  asks_errand : ℕ → ℕ → Action → Shared
  asks_call_off : Shared
  asks_settle : Shared

abbrev pub own_ticket : ℕ → ℕ → Ticket → Bool
own_ticket number j ticket = ticket.slot == j && ticket.number == number

abbrev pub shared : {X : Type 0} → ℕ → ℕ → Event X → Option Shared
shared number j (serve d sample (Ok moment)) = Some (moment_read moment)
shared number j (serve d sample (Err fault)) = None
shared number j (set_up k reference delay job r) = when (k == j) (asks_set_up reference delay job)
shared number j (errand k reference delay action r) = when (k == j) (asks_errand reference delay action)
shared number j (call_off k r) = when (k == j) asks_call_off
shared number j (settle ticket r) = when (own_ticket number j ticket) asks_settle
shared number j (next r) = None
shared number j (hold n) = None

-- what is seen of a slot: the answers of its calls, with the number left out of a ticket, and its reports, between the moments read
pub data Seen : Type 0 where
  moment_seen : ℕ → Seen
  set_up_told : Result ℕ Fault → Seen
  errand_told : Result Ticket Fault → Seen
  call_off_told : Result ℕ Fault → Seen
  settle_told : Result Outcome Fault → Seen
  -- due moment, moment answered, action
  reported : ℕ → ℕ → Action → Seen

-- a ticket with 0 for the logger's number
abbrev pub numberless : Result Ticket Fault → Result Ticket Fault
numberless (Ok ticket) = Ok (record { number = 0; slot = ticket.slot; spent = ticket.spent })
numberless (Err fault) = Err fault

abbrev pub seen : {X : Type 0} → ℕ → ℕ → Event X → Option Seen
seen number j (serve d sample (Ok moment)) = Some (moment_seen moment)
seen number j (serve d sample (Err fault)) = None
seen number j (set_up k reference delay job r) = when (k == j) (set_up_told r)
seen number j (errand k reference delay action r) = when (k == j) (errand_told (numberless r))
seen number j (call_off k r) = when (k == j) (call_off_told r)
seen number j (settle ticket r) = when (own_ticket number j ticket) (settle_told r)
seen number j (next None) = None
seen number j (next (Some f)) = when (f.slot == j) (reported f.due f.at f.action)
seen number j (hold n) = None

-- u is a due moment of a job of this kind whose first one is first
abbrev pub DueMoment : Kind → ℕ → ℕ → Type 0
DueMoment Once first u = u ≡ first
DueMoment (Every period) first u = (k : ℕ) × (u ≡ first + k * period)
DueMoment (Burst count period) first u = (k : ℕ) × (k < count) × (u ≡ first + k * period)

-- the job and first due moment that an accepted set-up or errand of slot j brings
abbrev pub sets : {X : Type 0} → ℕ → Event X → Option (Job × ℕ)
sets j (serve d sample r) = None
sets j (set_up k reference delay job (Ok due)) = when (k == j) (job, reference + delay)
sets j (set_up k reference delay job (Err fault)) = None
sets j (errand k reference delay action (Ok ticket)) = when (k == j) (once_job action, reference + delay)
sets j (errand k reference delay action (Err fault)) = None
sets j (call_off k r) = None
sets j (settle ticket r) = None
sets j (next r) = None
sets j (hold n) = None

-- whether the event is an accepted call-off or settle of slot j
abbrev pub ends : {X : Type 0} → ℕ → Event X → Bool
ends j (serve d sample r) = false
ends j (set_up k reference delay job r) = false
ends j (errand k reference delay action r) = false
ends j (call_off k (Ok due)) = k == j
ends j (call_off k (Err fault)) = false
ends j (settle ticket (Ok outcome)) = ticket.slot == j
ends j (settle ticket (Err fault)) = false
ends j (next r) = false
ends j (hold n) = false

-- an accepted serve: how many true ticks after the one before, and the moment read
pub record Reading : Type 0 where
  pub ticks : ℕ
  pub moment : ℕ

abbrev pub reading : {X : Type 0} → Event X → Option Reading
reading (serve d sample (Ok moment)) = Some (record { ticks = d; moment = moment })
reading (serve d sample (Err fault)) = None
reading (set_up k reference delay job r) = None
reading (errand k reference delay action r) = None
reading (call_off k r) = None
reading (settle ticket r) = None
reading (next r) = None
reading (hold n) = None

abbrev pub moved : ℕ → Option Reading → ℕ
moved moment None = moment
moved moment (Some r) = r.moment

-- the moment after the events, from a start moment on
abbrev pub moment_after : {X : Type 0} → ℕ → List (Event X) → ℕ
moment_after start [] = start
moment_after start (e ∷ es) = moment_after (moved start (reading e)) es

abbrev pub passed : Option Reading → ℕ
passed None = 0
passed (Some r) = r.ticks

-- the true ticks of all accepted serves among the events
abbrev pub true_ticks : {X : Type 0} → List (Event X) → ℕ
true_ticks [] = 0
true_ticks (e ∷ es) = passed (reading e) + true_ticks es

-- es are the events of a run, counted from 0
module _ {X : Type 0} (es : List (Event X)) where
  abbrev pub At : ℕ → Event X → Type 0
  At i e = slice_get es i ≡ Some e

  -- the moment after the event at i
  abbrev pub moment_at : ℕ → ℕ → ℕ
  moment_at start i = moment_after start (take (suc i) es)

  -- q lies in the first emptying after the event at p: from there to q there is nothing but answers of next
  abbrev pub FirstEmptying : ℕ → ℕ → Type 0
  FirstEmptying p q = (p < q) × ((c : ℕ) → p < c → c < q → (f : Firing) × At c (next (Some f)))

  -- a serve at p, d true ticks after the one before, is no later than hold last asked: nexts aside, it directly follows a hold that answered d or more
  pub record AsHeld (p d : ℕ) : Type 0 where
    pub place : ℕ
    pub answer : ℕ
    pub before : place < p
    pub held : At place (hold answer)
    pub enough : d ≤ answer
    pub between : (c : ℕ) → place < c → c < p → (r : Option Firing) × At c (next r)

-- and j is a slot
module _ {X : Type 0} (j : ℕ) (es : List (Event X)) where
  -- the event at i is an accepted set-up or errand of the slot, which brings this job with this first due moment
  abbrev pub SetUpAt : ℕ → Job → ℕ → Type 0
  SetUpAt i job first = (e : Event X) × At es i e × (sets j e ≡ Some (job, first))

  -- no set-up or errand of the slot is accepted between i and q
  abbrev pub NoSetUp : ℕ → ℕ → Type 0
  NoSetUp i q = (c : ℕ) (e : Event X) → i < c → c < q → At es c e → sets j e ≡ None

  -- no call-off or settle of the slot is accepted between i and q
  abbrev pub NoEnd : ℕ → ℕ → Type 0
  NoEnd i q = (c : ℕ) (e : Event X) → i < c → c < q → At es c e → ends j e ≡ false

  -- of what was set up at i, the due moment u is reached by the event at p, the first from i on after which u has come, unless the slot was given up before
  pub record ReachedBy (start i u p : ℕ) : Type 0 where
    pub from : i ≤ p
    pub within : p < length es
    pub reached : u ≤ moment_at es start p
    pub first : (q : ℕ) → i ≤ q → q < p → moment_at es start q < u
    pub stood : NoEnd i p

  -- next at q reports the due moment u of what was set up at i, at moment s
  pub record ReportedAt (i u : ℕ) (action : Action) (q s : ℕ) : Type 0 where
    pub after : i < q
    pub answer : At es q (next (Some (record { slot = j; due = u; at = s; action = action })))
    pub own : NoSetUp i q
