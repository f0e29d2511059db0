use Rattle.forecasting.specs.Pending.{firings}
use Rattle.forecasting.proofs.Rows.{Sofar}
use Rattle.forecasting.proofs.fill.Given as goal

abbrev pub invariant-loop-i : goal.invariant-loop-i
invariant-loop-i l = Sofar l.most (firings l.most l.initial.plan) l.initial.moments l.initial.slots l.i l.moments l.slots l.plan
