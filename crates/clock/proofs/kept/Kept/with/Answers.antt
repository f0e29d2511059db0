use Rattle.std.proofs.Common.{rules}
use Rattle.clock.proofs.kept.Kept.with.Goals as goal

pub invariant_of-self : goal.invariant_of-self
invariant_of-self g c = record { some = c.requires.some c.call-answer.result c.call-answer.new.arg2 (search rules) }
