use Rattle.std.proofs.Common.{◌^◌, ◌≤◌, arith, pow_mono}
use Rattle.clock.proofs.kept.Kept.at.Goals as goal

pub returns-in-Standing-clause-bound : goal.returns-in-Standing-clause-bound
returns-in-Standing-clause-bound c = let top : 2 ^ c.args.width.bits ≤ 2 ^ 48 = pow_mono c.args.width.high in omega arith

pub returns-in-Due-clause-bound : goal.returns-in-Due-clause-bound
returns-in-Due-clause-bound c = let top : 2 ^ c.args.width.bits ≤ 2 ^ 48 = pow_mono c.args.width.high in omega arith
