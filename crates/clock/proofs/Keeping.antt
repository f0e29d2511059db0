-- What layers have in common: the clock below gains less than a turn in a take, and what is kept moves at the width of the code. Assumes nothing.
use Rattle.std.proofs.Common.{◌≡◌, ℕ, ◌^◌, ◌<◌, sym, ap, ◌∙◌, arith}
use Rattle.clock.specs.Meaning.{Meaning, Lawful}
use Rattle.clock.specs.declared.appointment.Appointment.{Appointment}
use Rattle.clock.specs.Appointment.{after_take}
use Rattle.clock.specs.Kept.{within}
use Rattle.clock.proofs.Waiting.{measure_le}

-- w and w' are the widths of the layer's clock before and after the take
pub kept_moved : (w w' width reading from gained : ℕ) (kept kept' : Appointment) → width ≡ w → w' ≡ w → from ≡ reading
    → within width kept' ≡ after_take width from gained (within width kept) → within w' kept' ≡ after_take w reading gained (within w kept)
kept_moved w w' width reading from gained kept kept' is still here moved =
    ap (λ n. within n kept') (still ∙ sym is) ∙ moved ∙ λ i. after_take (is i) (here i) gained (within (is i) kept)

-- the clock below does not gain a whole turn in one take
pub gains_less : {X : Type 0} (m : Meaning X) → Lawful m → (d : ℕ) → d < m.reach → (m.measure d < 2 ^ m.width) × (m.measure d < 2 ^ 32)
gains_less m law d near =
    let le = measure_le law.counts d in
    (omega (arith, le, law.reach_fits), omega (arith, le, law.reach_high))
