use Rattle.queue.proofs.Queued.{queued_none}
use Rattle.forecasting.proofs.plan.Plan.new.Goals as goal

pub returns : goal.returns
returns c = queued_none c.new.result _ c.new.ensures
