use Rattle.std.proofs.Common.{rules}
use Rattle.up.specs.UpCounters.{up_accepted}
use Rattle.up.proofs.up.UpCounter.accept.Goals as goal

pub returns : goal.returns
returns c =
    let s = c.args.self.now in
    up_accepted s.width.bits s.last s.tag c.args.sample.0 c.args.gained s.appointment c.take.new.self
    s.fits (search rules) (search rules) (search rules)
