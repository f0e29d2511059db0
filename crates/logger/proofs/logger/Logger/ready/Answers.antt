use Rattle.std.proofs.Common.{sym, subst}
use Rattle.logger.specs.State.{view}
use Rattle.logger.specs.Choice.{Chosen}
use Rattle.logger.proofs.Next.{chosen}
use Rattle.logger.proofs.logger.Logger.ready.Goals as goal

pub returns : goal.returns
returns g c =
    let l = view g.A.Clock.meaning c.args.self.now in
    subst (Chosen l) (sym c.ready.ensures.slot) (chosen l)
