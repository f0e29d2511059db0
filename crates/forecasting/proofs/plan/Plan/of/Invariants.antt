use Rattle.std.proofs.Common.{◌≡◌, map, take}
use Rattle.queue.specs.Order.{in_order}
use Rattle.forecasting.specs.Pending.{pending, pending_compare}
use Rattle.forecasting.proofs.plan.Plan.of.Given as goal

abbrev pub invariant-loop-line : goal.invariant-loop-line
invariant-loop-line l = l.plan ≡ in_order pending_compare (map (pending l.start) (take l.line-index l.lines))
