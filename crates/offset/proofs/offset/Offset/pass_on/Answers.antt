use Rattle.offset.specs.ShiftedLemmas.{offset_taken}
use Rattle.offset.proofs.offset.Offset.pass_on.Goals as goal

pub returns : goal.returns
returns g c =
    let s = c.args.self.now in
    offset_taken (g.A.Clock.meaning s.below) (g.met.A.Clock.lawful s.below) s.shift.by _ (g.A.Alarm.appointment s.below) (g.A.Alarm.appointment c.take.new.self)
    c.args.sample c.take.result c.take.ensures
