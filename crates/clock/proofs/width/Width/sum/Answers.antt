use Rattle.std.proofs.Common.{◌+◌, ◌∙◌, arith}
use Rattle.clock.proofs.Wrapping.{turns_dropped}
use Rattle.clock.proofs.width.Width.sum.Goals as goal

pub returns : goal.returns
returns c = c.low_bits.ensures ∙ turns_dropped c.args.self.bits (c.args.a + c.args.b) (omega (arith, c.args.self.high))
