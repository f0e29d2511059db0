-- Runs of a logger: its calls with their answers, each step being what the call's own contract says.
-- Assumes nothing.
use Rattle.std.specs.Prelude.{ℕ, Bool, true, false, ◌||◌, T, List, [], ◌∷◌, Some, None, Ok, Err, Option, Result}
use Rattle.fault.specs.declared.Fault.{Fault}
use Rattle.jobs.specs.declared.Job.{Job}
use Rattle.jobs.specs.declared.Action.{Action}
use Rattle.jobs.specs.declared.Firing.{Firing}
use Rattle.logger.specs.declared.ticket.Ticket.{Ticket}
use Rattle.jobs.specs.declared.Outcome.{Outcome}
use Rattle.logger.specs.State.{Log}
use Rattle.logger.specs.Calls.{Served, SetUp, Erranded, CalledOff, Settled, Nexted, Held}

-- a call with its answer; X is the kind of sample
pub data Event (X : Type 0) : Type 0 where
  -- true ticks since the last accepted sample, the sample
  serve : ℕ → X → Result ℕ Fault → Event X
  -- slot, reference moment, delay, job
  set_up : ℕ → ℕ → ℕ → Job → Result ℕ Fault → Event X
  errand : ℕ → ℕ → ℕ → Action → Result Ticket Fault → Event X
  call_off : ℕ → Result ℕ Fault → Event X
  settle : Ticket → Result Outcome Fault → Event X
  next : Option Firing → Event X
  hold : ℕ → Event X

abbrev pub Step : {X : Type 0} → Log X → Event X → Log X → Type 0
Step l (serve d sample r) l' = Served l d sample r l'
Step l (set_up j reference delay job r) l' = SetUp l j reference delay job r l'
Step l (errand j reference delay action r) l' = Erranded l j reference delay action r l'
Step l (call_off j r) l' = CalledOff l j r l'
Step l (settle ticket r) l' = Settled l ticket r l'
Step l (next r) l' = Nexted l r l'
Step l (hold n) l' = Held l n l'

pub data Run {X : Type 0} : Log X → List (Event X) → Log X → Type 0 where
  done : {l : Log X} → Run l [] l
  then : {l m n : Log X} {e : Event X} {es : List (Event X)} → Step l e m → Run m es n → Run l (e ∷ es) n

abbrev pub is_next : {X : Type 0} → Event X → Bool
is_next (serve d sample r) = false
is_next (set_up j reference delay job r) = false
is_next (errand j reference delay action r) = false
is_next (call_off j r) = false
is_next (settle ticket r) = false
is_next (next r) = true
is_next (hold n) = false

-- whether a logger is emptied after a call, by whether it was before: no serve, set-up or errand has been accepted since next last answered none
abbrev pub emptied_by : {X : Type 0} → Bool → Event X → Bool
emptied_by b (serve d sample (Ok moment)) = false
emptied_by b (serve d sample (Err fault)) = b
emptied_by b (set_up j reference delay job (Ok due)) = false
emptied_by b (set_up j reference delay job (Err fault)) = b
emptied_by b (errand j reference delay action (Ok ticket)) = false
emptied_by b (errand j reference delay action (Err fault)) = b
emptied_by b (call_off j r) = b
emptied_by b (settle ticket r) = b
emptied_by b (next None) = true
emptied_by b (next (Some f)) = b
emptied_by b (hold n) = b

-- the logger is emptied before every call but next, and at the end; b says whether it is at the start
abbrev pub Emptied : {X : Type 0} → Bool → List (Event X) → Type 0
Emptied b [] = T b
Emptied b (e ∷ es) = T (b || is_next e) × Emptied (emptied_by b e) es
