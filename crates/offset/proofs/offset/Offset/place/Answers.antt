use Rattle.std.proofs.Common.{◌≡◌, ◌%◌, ◌^◌, ap, ◌∙◌}
use Rattle.clock.specs.Wrap.{minus}
use Rattle.offset.specs.ShiftedLemmas.{offset_set}
use Rattle.offset.proofs.offset.Offset.place.Goals as goal

pub returns : goal.returns
returns g c =
    let s = c.args.self.now in
    let m = g.A.Clock.meaning s.below in
    let turn : c.turn.result ≡ 2 ^ m.width = c.turn.ensures ∙ ap (λ n. 2 ^ n) c.of-width.ensures in
    offset_set m (g.met.A.Clock.lawful s.below) s.shift.by _ (g.A.Alarm.appointment s.below) (g.A.Alarm.appointment c.set.new.self)
    c.args.reference c.args.delay c.difference-back.result c.set.result
    c.requires
    (c.difference-back.ensures ∙ λ i. minus (c.of-width.ensures i) c.args.reference (s.shift.by % turn i))
    c.set.ensures
