-- The up-counter keeps the laws of a clock, and moves as a clock moves. Assumes nothing.
use Rattle.std.specs.Prelude.{◌≡◌, ℕ, ◌+◌, ◌-◌, ◌%◌, ◌^◌, ◌<◌, ◌≤◌, min, List, refl}
use Rattle.std.proofs.Common.{sym, ap, ◌∙◌, mod-lt, zero-add, arith, pow_pos, pow_mono}
use Rattle.std.proofs.Math.Nat.{mod-add-mod}
use Rattle.clock.specs.Wrap.{plus, minus}
use Rattle.clock.specs.Meaning.{Lawful, advanced, total}
use Rattle.up.specs.Up.{up_meaning}
use Rattle.up.specs.declared.up.Word.{Word}
use Rattle.clock.specs.declared.appointment.Appointment.{Appointment}
use Rattle.clock.specs.Appointment.{after_take}
use Rattle.clock.specs.Calls.{Accepted}
use Rattle.clock.specs.Hold.{wait_for}
use Rattle.clock.proofs.Wrapping.{add_cancel, there}
use Rattle.clock.proofs.Waiting.{each_tick, steady_wait}

module _ (w reading tag : ℕ) (wide : 8 ≤ w) (narrow : w ≤ 32) (fits : reading < 2 ^ w) where
  at_once : (d e : ℕ) → plus w reading (0 + d) ≡ plus w reading (0 + e) → plus w reading d ≡ plus w reading e
  at_once d e = simp zero-add (λ same. same)

  pub up_lawful : Lawful (up_meaning w reading tag)
  up_lawful =
      let low : 2 ^ 8 ≤ 2 ^ w = pow_mono wide in
      record {
        width_low = wide;
        width_high = omega arith;
        reading_fits = fits;
        reach_low = omega arith;
        reach_high = pow_mono narrow;
        reach_fits = omega arith;
        counts = each_tick;
        apart = λ d e hd he same. add_cancel (2 ^ w) reading d e fits hd he (at_once d e (ap (λ (x : Word). x.0) same));
      }

pub up_advanced : (w reading tag d : ℕ) → up_meaning w (plus w reading d) tag ≡ advanced (up_meaning w reading tag) d
up_advanced w reading tag d = λ i. record {
  width = w;
  reading = plus w reading d;
  reach = 2 ^ w;
  shown = λ ds e. record { 0 = shows ds e i };
  measure = λ x. gains x i;
  tag = tag;
}
  where
    shows : (ds : List ℕ) (e : ℕ) → plus w (plus w reading d) (total ds + e) ≡ plus w reading (d + total ds + e)
    shows ds e = mod-add-mod (reading + d) (2 ^ w) (total ds + e) ∙ ap (λ n. n % 2 ^ w) (omega arith)

    gains : (x : ℕ) → x ≡ d + x - d
    gains x = omega arith

-- the wait of a clock that gains each tick is what is left, capped at the reach
pub up_wait : (w reading tag left : ℕ) → min left (2 ^ w - 1) ≡ wait_for (up_meaning w reading tag) left
up_wait w reading tag left = steady_wait (up_meaning w reading tag) left (λ d. refl)

-- a sample that the counter can show was accepted
pub up_accepted : (w reading tag sample gained : ℕ) (a a' : Appointment) → reading < 2 ^ w → sample < 2 ^ w
    → gained ≡ minus w sample reading → a' ≡ after_take w reading gained a
    → Accepted (up_meaning w reading tag) a (record { 0 = sample }) gained (up_meaning w sample tag) a'
up_accepted w reading tag sample gained a a' fits low gain moved =
    let d = minus w sample reading in
    let is : sample ≡ plus w reading d = there (2 ^ w) sample reading low fits in
    record {
      ticks = d;
      within = mod-lt _ (pow_pos w);
      shows = ap (λ n. record { 0 = n }) (is ∙ ap (plus w reading) (sym (zero-add d)));
      gain = gain;
      clock = ap (λ n. up_meaning w n tag) is ∙ up_advanced w reading tag d;
      appointment = moved;
    }
