-- An errand that is put off: its ticket is settled, and another errand is set up in its slot, which is to make a mark.
-- Assumes nothing.
use Rattle.std.specs.Prelude.{◌≡◌, ℕ, Ok, Err, Result}
use Rattle.fault.specs.declared.Fault.{Fault}
use Rattle.jobs.specs.declared.Action.TheVariants.{Mark}
use Rattle.jobs.specs.declared.Outcome.{Outcome}
use Rattle.jobs.specs.declared.Slot.TheVariants.{Free}
use Rattle.logger.specs.State.{Log, with_slot}
use Rattle.logger.specs.Calls.{settle_answer, Erranded}
use Rattle.logger.specs.declared.ticket.Ticket.{Ticket}

-- l is the log before the call, l' after it; the settle comes first, and a refused one ends the call
module _ {X : Type 0} (l : Log X) (ticket : Ticket) (slot delay : ℕ) (r : Result Ticket Fault) (l' : Log X) where
  pub record Refused (fault : Fault) : Type 0 where
    pub answer : r ≡ Err fault
    pub after : l' ≡ l

  abbrev pub Resumed : Result Outcome Fault → Type 0
  Resumed (Ok outcome) = Erranded (with_slot l ticket.slot Free) slot l.moment delay Mark r l'
  Resumed (Err fault) = Refused fault

  -- the other errand is set up in this slot
  abbrev pub Replaced : Type 0
  Replaced = Resumed (settle_answer l ticket)

-- the other errand is set up in the slot of the first
abbrev pub PutOff : {X : Type 0} → Log X → Ticket → ℕ → Result Ticket Fault → Log X → Type 0
PutOff l ticket delay r l' = Replaced l ticket ticket.slot delay r l'
