use Rattle.std.proofs.Common.{rules}
use Rattle.down.specs.DownCounters.{down_accepted}
use Rattle.down.proofs.down.DownCounter.accept.Goals as goal

pub returns : goal.returns
returns c =
    let s = c.args.self.now in
    down_accepted s.reload s.last s.reading s.tag c.args.sample.0 c.args.gained c.sum-self.result s.appointment c.take.new.self
    s.within (search rules) (search rules) c.sum-self.ensures c.take.ensures.after
