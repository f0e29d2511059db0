-- The rate 2/3 above the rate 1/2: what the sample 3 gains of a fresh counter. Assumes nothing.
use Rattle.std.proofs.Common.{◌≡◌, ℕ, Ok, Err, Result, refl, ap, ◌∙◌, subst, arith, lit<}
use Rattle.fault.specs.declared.Fault.{Fault}
use Rattle.clock.specs.declared.appointment.Appointment.{Appointment}
use Rattle.up.specs.declared.up.Word.{Word}
use Rattle.clock.specs.Meaning.{Meaning}
use Rattle.clock.specs.Calls.{Taken}
use Rattle.worked.specs.Cases.{up, at_rate}

abbrev pub stacked : Meaning Word
stacked = at_rate 2 3 (at_rate 1 2 (up 8 0))

gains_nothing : (a : Appointment) (r : Result ℕ Fault) (m' : Meaning Word) (a' : Appointment) → Taken stacked a (record { 0 = 3 }) r m' a' → r ≡ Ok 0
gains_nothing a (Ok gained) m' a' taken =
    let three : taken.ticks ≡ 3 = omega (arith, ap (λ (x : Word). x.0) taken.shows, taken.within) in
    ap (λ n. Ok n) (taken.gain ∙ ap stacked.measure three)
gains_nothing a (Err fault) m' a' stray = absurd (stray.never 3 (lit< tt) refl)

pub nothing_yet : (m : Meaning Word) → m ≡ stacked → (a : Appointment) (r : Result ℕ Fault) (m' : Meaning Word) (a' : Appointment)
    → Taken m a (record { 0 = 3 }) r m' a' → r ≡ Ok 0
nothing_yet m is a r m' a' taken = gains_nothing a r m' a' (subst (λ (x : Meaning Word). Taken x a (record { 0 = 3 }) r m' a') is taken)
