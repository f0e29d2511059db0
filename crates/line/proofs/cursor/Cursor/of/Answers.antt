use Rattle.std.proofs.Common.{ap, arith}
use Rattle.line.specs.Line.{extent}
use Rattle.line.proofs.Extents.{extent_words}
use Rattle.line.proofs.cursor.Cursor.of.Goals as goal

pub invariant_of-result : goal.invariant_of-result
invariant_of-result c = (omega (arith, ap extent c.of.ensures, extent_words c.args.text.now), c.requires)
