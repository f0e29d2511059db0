use Rattle.std.proofs.Common.{rules}
use Rattle.logger.specs.State.{view}
use Rattle.logger.proofs.Hold.{law_of_answer}
use Rattle.logger.proofs.logger.Logger.hold.Goals as goal

pub returns-in-Some-eq0-clause-law : goal.returns-in-Some-eq0-clause-law
returns-in-Some-eq0-clause-law g c = law_of_answer (view g.A.Clock.meaning c.args.self.now) _ (search rules)

pub returns-in-Some-clause-law : goal.returns-in-Some-clause-law
returns-in-Some-clause-law g c = law_of_answer (view g.A.Clock.meaning c.args.self.now) _ (search rules)

pub returns-in-None-clause-law : goal.returns-in-None-clause-law
returns-in-None-clause-law g c = law_of_answer (view g.A.Clock.meaning c.args.self.now) _ (search rules)
