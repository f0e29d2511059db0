use Rattle.std.proofs.Common.{rules, ◌≡◌, refl, ap, ◌∙◌}
use Rattle.clock.specs.Meaning.{Meaning}
use Rattle.clock.specs.declared.appointment.Appointment.{Appointment}
use Rattle.clock.specs.declared.appointment.Appointment.TheVariants.{Idle, Standing, Due}
use Rattle.clock.specs.Kept.{within}
use Rattle.clock.specs.Hold.{hold_of}
use Rattle.rate.specs.Rate.{rate_meaning, needed_for}
use Rattle.rate.specs.Rated.{rate_wait}
use Rattle.rate.proofs.rate.RateAlarm.hold.Goals as goal

pub returns : goal.returns
returns g c =
    let s = c.args.self.now in
    let m = g.A.Clock.meaning s.below in
    let above = λ (x : Meaning g.row.A-Sample.Denot). rate_meaning x s.ratio.gains s.ratio.ticks s.remainder s.count in
    let same : (a : Appointment) → hold_of m (needed_for s.ratio.gains s.ratio.ticks s.remainder a) ≡ hold_of (above m) a =
    λ a. elim a as (λ a. hold_of m (needed_for s.ratio.gains s.ratio.ticks s.remainder a) ≡ hold_of (above m) a) [
      | Idle ↦ refl
      | Standing left ↦ rate_wait s.ratio.gains s.ratio.ticks s.remainder s.ratio.some s.ratio.slow s.small m (g.met.A.Clock.lawful s.below) s.count left
      | Due point ↦ refl
    ] in
    let here : c.at-appointment.result ≡ within m.width s.kept.appointment = search rules in
    record {
      answer = c.hold_over.ensures.answer ∙ ap (hold_of m) c.needed_for-needed.ensures ∙ same c.at-appointment.result ∙ ap (hold_of (above m)) here;
      clock = ap above c.hold_over.ensures.clock;
      appointment = ap (λ (x : Meaning g.row.A-Sample.Denot). within x.width s.kept.appointment) c.hold_over.ensures.clock;
    }
