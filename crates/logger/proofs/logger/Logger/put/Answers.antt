use Rattle.std.proofs.Common.{rules}
use Rattle.logger.proofs.Fitting.{fits_set}
use Rattle.logger.proofs.logger.Logger.put.Goals as goal

pub invariant_of-self : goal.invariant_of-self
invariant_of-self g c = record {
  size = c.put.ensures.size;
  limits = search (rules, fits_set);
}
