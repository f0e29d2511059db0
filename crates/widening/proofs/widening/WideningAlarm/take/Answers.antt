use Rattle.std.proofs.Common.{◌≡◌, ℕ, ◌+◌, ◌^◌, ◌<◌, ◌≤◌, leb, sym, ap, ◌∙◌, subst, arith, pow_mono}
use Rattle.clock.specs.Meaning.{Meaning, Lawful}
use Rattle.clock.specs.Calls.{Accepted}
use Rattle.clock.specs.Appointment.{after_take}
use Rattle.clock.specs.Kept.{within}
use Rattle.clock.specs.declared.kept.Kept.{Kept}
use Rattle.widening.specs.Widening.{carry_after}
use Rattle.clock.proofs.Keeping.{gains_less}
use Rattle.widening.specs.WidenedLemmas.{widening_accepted}
use Rattle.widening.proofs.widening.WideningAlarm.take.Goals as goal

-- a reading and what is gained in d true ticks, below the reach, fit together
sum_fits : {X : Type 0} (m : Meaning X) (d low gained : ℕ) → Lawful m → low ≡ m.reading → d < m.reach → gained ≡ m.measure d → low + gained < 2 ^ 64
sum_fits m d low gained law is near gain =
    let less = gains_less m law d near in
    let top : 2 ^ m.width ≤ 2 ^ 48 = pow_mono law.width_high in
    omega (arith, law.reading_fits)

pub overflow_add-wrapped : goal.overflow_add-wrapped
overflow_add-wrapped g c =
    let below = c.args.self.now.below in
    let taken = c.in_ok-gained.ensures in
    record {
      fits = sum_fits (g.A.Clock.meaning below) taken.ticks c.reading-low.result c.in_ok-gained.gained
          (g.met.A.Clock.lawful below) c.reading-low.ensures taken.within taken.gain;
    }

pub returns : goal.returns
returns g c =
    let s = c.args.self.now in
    let after = c.follow.new.self in
    let m = g.A.Clock.meaning s.below in
    let gained = c.in_ok-gained.gained in
    let taken : Accepted m (g.A.Alarm.appointment s.below) c.args.sample gained (g.A.Clock.meaning after.below) (g.A.Alarm.appointment after.below) =
    subst (λ b. Accepted m (g.A.Alarm.appointment s.below) c.args.sample gained (g.A.Clock.meaning b) (g.A.Alarm.appointment b))
    (sym c.follow.ensures.below) c.in_ok-gained.ensures in
    let turn : c.turn-turn.result ≡ 2 ^ m.width = c.turn-turn.ensures ∙ ap (λ n. 2 ^ n) c.of.ensures in
    let carried : after.carry ≡ carry_after s.bits.count s.carry (leb (2 ^ m.width) (m.reading + gained)) =
    c.follow.ensures.carry ∙ λ i. carry_after s.bits.count s.carry (leb (turn i) (c.reading-low.ensures i + gained)) in
    widening_accepted m (g.A.Clock.meaning after.below) (g.A.Alarm.appointment s.below) (g.A.Alarm.appointment after.below) s.bits.count after.bits.count s.carry after.carry
    s.kept.appointment c.take-2.new.self.appointment c.args.sample gained c.of-width.result.bits c.reading-from.result
    (g.met.A.Clock.lawful s.below) taken c.follow.ensures.bits carried c.of-width.ensures c.reading-from.ensures
    (subst (λ (k : Kept). within c.of-width.result.bits c.take-2.new.self.appointment ≡ after_take c.of-width.result.bits c.reading-from.result gained (within c.of-width.result.bits k.appointment))
    c.follow.ensures.kept c.take-2.ensures)
