-- What it is to settle the ticket that lies on a desk, and what it is to put off the errand of that ticket.
-- Assumes nothing.
use Rattle.std.specs.Prelude.{ℕ, Some, None, Option, Result}
use Rattle.fault.specs.declared.Fault.{Fault}
use Rattle.jobs.specs.declared.Outcome.{Outcome}
use Rattle.logger.specs.State.{Log}
use Rattle.logger.specs.Calls.{Settled}
use Rattle.logger.specs.declared.ticket.Ticket.{Ticket}
use Rattle.errands.specs.Errands.{Replaced}

abbrev pub SettledFrom : {X : Type 0} → Log X → Option Ticket → Result Outcome Fault → Log X → Type 0
SettledFrom l None r l' = Unit {0}
SettledFrom l (Some ticket) r l' = Settled l ticket r l'

abbrev pub PutOffFrom : {X : Type 0} → Log X → Option Ticket → ℕ → ℕ → Result Ticket Fault → Log X → Type 0
PutOffFrom l None slot delay r l' = Unit {0}
PutOffFrom l (Some ticket) slot delay r l' = Replaced l ticket slot delay r l'
