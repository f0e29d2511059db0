use Rattle.std.proofs.Common.{◌≡◌, ℕ, ◌^◌, ◌<◌, sym, ap, subst, arith}
use Rattle.clock.specs.Meaning.{Meaning, Lawful}
use Rattle.rate.specs.declared.ratio.Ratio.{Ratio}
use Rattle.clock.specs.Calls.{Accepted}
use Rattle.clock.specs.Appointment.{after_take}
use Rattle.clock.specs.Kept.{within}
use Rattle.clock.specs.declared.kept.Kept.{Kept}
use Rattle.clock.proofs.Keeping.{gains_less}
use Rattle.rate.specs.Rated.{rate_accepted}
use Rattle.rate.proofs.rate.RateAlarm.take.Goals as goal

-- what is gained in d true ticks, below the reach, fits 32 bits
few : {X : Type 0} (m : Meaning X) (d ticks : ℕ) → Lawful m → d < m.reach → ticks ≡ m.measure d → ticks < 2 ^ 32
few m d ticks law near gain = let less = gains_less m law d near in omega arith

pub follow-gained-requires : goal.follow-gained-requires
follow-gained-requires g c =
    let below = c.args.self.now.below in
    let law = g.met.A.Clock.lawful below in
    let taken = c.in_ok-ticks.ensures in
    few (g.A.Clock.meaning below) taken.ticks c.in_ok-ticks.ticks law taken.within taken.gain

pub returns : goal.returns
returns g c =
    let s = c.args.self.now in
    let after = c.follow-gained.new.self in
    let m = g.A.Clock.meaning s.below in
    let ticks = c.in_ok-ticks.ticks in
    let taken : Accepted m (g.A.Alarm.appointment s.below) c.args.sample ticks (g.A.Clock.meaning after.below) (g.A.Alarm.appointment after.below) =
    subst (λ b. Accepted m (g.A.Alarm.appointment s.below) c.args.sample ticks (g.A.Clock.meaning b) (g.A.Alarm.appointment b))
    (sym c.follow-gained.ensures.below) c.in_ok-ticks.ensures in
    rate_accepted s.ratio.gains s.ratio.ticks s.remainder s.ratio.some s.ratio.slow s.small
    m (g.met.A.Clock.lawful s.below) s.count (g.A.Clock.meaning after.below) (g.A.Alarm.appointment s.below) (g.A.Alarm.appointment after.below)
    after.ratio.gains after.ratio.ticks after.remainder after.count s.kept.appointment c.take-2.new.self.appointment
    c.args.sample ticks c.follow-gained.result c.of-width.result.bits c.reading-from.result
    taken (ap (λ (x : Ratio). x.gains) c.follow-gained.ensures.ratio) (ap (λ (x : Ratio). x.ticks) c.follow-gained.ensures.ratio)
    c.follow-gained.ensures.remainder c.follow-gained.ensures.gained c.follow-gained.ensures.count
    c.of-width.ensures c.reading-from.ensures
    (subst (λ (k : Kept). within c.of-width.result.bits c.take-2.new.self.appointment ≡ after_take c.of-width.result.bits c.reading-from.result c.follow-gained.result (within c.of-width.result.bits k.appointment))
    c.follow-gained.ensures.kept c.take-2.ensures)
