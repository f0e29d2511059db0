use Rattle.std.proofs.Common.{◌≡◌, length, ap, arith, rules}
use Rattle.queue.proofs.Queued.{length_queued}
use Rattle.forecasting.proofs.plan.Plan.take.Goals as goal

pub returns-clause-few : goal.returns-clause-few
returns-clause-few c =
    let p = c.self.inside in
    let places : length p.row ≡ 32 = search rules in
    omega (arith, length_queued p.queue p.row (omega (arith, c.self.invariant)), ap length c.self.view_is, c.self.invariant)
