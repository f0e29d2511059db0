use Rattle.std.proofs.Common.{ℕ, ap, ◌∙◌}
use Rattle.std.specs.Result.{result_unwrap_or}
use Rattle.clock.specs.declared.appointment.Appointment.TheVariants.{Idle}
use Rattle.clock.specs.declared.appointment.Appointment.{Appointment}
use Rattle.up.specs.declared.up.Word.{Word}
use Rattle.clock.specs.Meaning.{Meaning}
use Rattle.rate.specs.Rate.{rate_meaning}
use Rattle.worked.specs.Cases.{up}
use Rattle.worked.proofs.Stacked.{nothing_yet}
use Rattle.worked.proofs.two_rates.Goals as goal

pub returns : goal.returns
returns c =
    let counter = ap (λ r. (result_unwrap_or {T = Meaning Word × Appointment} r (up 8 0, Idle)).0) c.in_ok-counter.ensures in
    let low = ap (λ r. result_unwrap_or {T = ℕ × ℕ} r (0, 0)) c.in_ok-new.ensures in
    let high = ap (λ r. result_unwrap_or {T = ℕ × ℕ} r (0, 0)) c.in_ok-new-2.ensures in
    let half = c.new-half.ensures.clock ∙ (λ i. rate_meaning (counter i) (low i).0 (low i).1 0 0) in
    let third = c.new-third.ensures.clock ∙ (λ i. rate_meaning (half i) (high i).0 (high i).1 0 0) in
    nothing_yet _ third _ _ _ _ c.take.ensures
