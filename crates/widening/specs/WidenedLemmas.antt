-- A widened clock keeps the laws of a clock, and moves as a clock moves. Assumes nothing.
use Rattle.std.specs.Prelude.{◌≡◌, ℕ, ◌+◌, ◌-◌, ◌*◌, ◌/◌, ◌%◌, ◌^◌, ◌<◌, ◌≤◌, ◌∷◌, nat_le}
use Rattle.std.proofs.Common.{sym, ap, ◌∙◌, ⊎_elim, mod-lt, div-add-mod', add-mul, mul_assoc, mul_comm, add_assoc, arith, pow_pos, pow_mono, pow-add}
use Rattle.std.proofs.Math.Nat.{mod-add-mod, mul-add-mod_self_left}
use Rattle.std.proofs.lemmas.Nat.{shr_high, mod_low, mod-pow-add}
use Rattle.std.proofs.lemmas.Bool.{cases_lt, le-leb, lt-leb, cond-true, cond-false}
use Rattle.clock.specs.Wrap.{plus}
use Rattle.clock.specs.Meaning.{Meaning, Lawful, advanced}
use Rattle.widening.specs.Widening.{widened_width, widening_meaning, carry_after}
use Rattle.clock.specs.declared.appointment.Appointment.{Appointment}
use Rattle.clock.specs.Appointment.{after_take}
use Rattle.clock.specs.Kept.{within}
use Rattle.clock.specs.Calls.{Accepted}
use Rattle.clock.proofs.Wrapping.{below, once_round}
use Rattle.clock.proofs.Keeping.{gains_less, kept_moved}

-- a carry counts modulo 2^bits: what it drops lies above the widened reading
pub carry_drops : (w bits top x y : ℕ) → top ≤ w + bits → (x % 2 ^ bits * 2 ^ w + y) % 2 ^ top ≡ (x * 2 ^ w + y) % 2 ^ top
carry_drops w bits top x y low = sym (ap (λ n. n % 2 ^ top) parts ∙ mul-add-mod_self_left (2 ^ top) (2 ^ (w + bits - top) * (x / 2 ^ bits)) (x % 2 ^ bits * 2 ^ w + y))
  where
    whole : 2 ^ bits * 2 ^ w ≡ 2 ^ top * 2 ^ (w + bits - top)
    whole =
        sym (pow-add 2 bits w) ∙ ap (λ n. 2 ^ n) (omega arith) ∙ pow-add 2 top (w + bits - top)

    high : x / 2 ^ bits * 2 ^ bits * 2 ^ w ≡ 2 ^ top * (2 ^ (w + bits - top) * (x / 2 ^ bits))
    high =
        mul_assoc (x / 2 ^ bits) (2 ^ bits) (2 ^ w) ∙ ap (λ n. x / 2 ^ bits * n) whole
        ∙ mul_comm (x / 2 ^ bits) (2 ^ top * 2 ^ (w + bits - top)) ∙ mul_assoc (2 ^ top) (2 ^ (w + bits - top)) (x / 2 ^ bits)

    parts : x * 2 ^ w + y ≡ 2 ^ top * (2 ^ (w + bits - top) * (x / 2 ^ bits)) + (x % 2 ^ bits * 2 ^ w + y)
    parts =
        ap (λ n. n * 2 ^ w + y) (sym (div-add-mod' x (2 ^ bits)))
        ∙ ap (λ n. n + y) (add-mul (x / 2 ^ bits * 2 ^ bits) (x % 2 ^ bits) (2 ^ w) ∙ ap (λ n. n + x % 2 ^ bits * 2 ^ w) high)
        ∙ add_assoc _ _ _

-- a carry above a reading of w bits, modulo 2^top
module _ (top w carry reading : ℕ) (wider : w ≤ top) (fits : reading < 2 ^ w) where
  pub joined_is : carry % 2 ^ (top - w) * 2 ^ w + reading ≡ (carry * 2 ^ w + reading) % 2 ^ top
  joined_is =
      let n = carry * 2 ^ w + reading in
      let j = top - w in
      let two : top ≡ j + w = omega arith in
      sym (ap (λ k. n % 2 ^ k) two ∙ mod-pow-add n j w ∙ ap (λ k. k % 2 ^ j * 2 ^ w + n % 2 ^ w) (shr_high carry w reading fits)
      ∙ ap (λ k. carry % 2 ^ j * 2 ^ w + k) (mod_low carry w reading fits))

  pub joined_fits : top ≤ 48 → carry % 2 ^ (top - w) * 2 ^ w + reading < 2 ^ 48
  joined_fits narrow =
      let turns : 2 ^ top ≤ 2 ^ 48 = pow_mono narrow in
      let low = mod-lt (carry * 2 ^ w + reading) (pow_pos top) in
      omega (arith, joined_is)

module _ {X : Type 0} (m : Meaning X) (law : Lawful m) (bits carry : ℕ) where
  wider : m.width ≤ widened_width m.width bits
  wider = omega (arith, law.width_high)

  pub widening_lawful : Lawful (widening_meaning m bits carry)
  widening_lawful =
      let turns : 2 ^ m.width ≤ 2 ^ widened_width m.width bits = pow_mono wider in
      record {
        width_low = omega (arith, law.width_low);
        width_high = omega arith;
        reading_fits = mod-lt _ (pow_pos _);
        reach_low = law.reach_low;
        reach_high = law.reach_high;
        reach_fits = omega (arith, law.reach_fits);
        counts = law.counts;
        apart = law.apart;
      }

  pub widened_on : (gained carry' : ℕ) → gained < 2 ^ m.width → carry' ≡ carry_after bits carry (nat_le (2 ^ m.width) (m.reading + gained))
      → (carry' * 2 ^ m.width + plus m.width m.reading gained) % 2 ^ widened_width m.width bits
      ≡ plus (widened_width m.width bits) ((carry * 2 ^ m.width + m.reading) % 2 ^ widened_width m.width bits) gained
  widened_on gained carry' less carried = ⊎_elim stays wraps (cases_lt (m.reading + gained) (2 ^ m.width)) ∙ sym (mod-add-mod (carry * 2 ^ m.width + m.reading) _ gained)
    where
      stays : m.reading + gained < 2 ^ m.width
          → (carry' * 2 ^ m.width + plus m.width m.reading gained) % 2 ^ widened_width m.width bits
          ≡ (carry * 2 ^ m.width + m.reading + gained) % 2 ^ widened_width m.width bits
      stays low =
          let same : carry' ≡ carry = carried ∙ cond-false _ _ _ (lt-leb (2 ^ m.width) (m.reading + gained) low) in
          let e = below (2 ^ m.width) (m.reading + gained) low in
          ap (λ n. (n * 2 ^ m.width + plus m.width m.reading gained) % 2 ^ widened_width m.width bits) same
          ∙ ap (λ n. n % 2 ^ widened_width m.width bits) (omega arith)

      wraps : 2 ^ m.width ≤ m.reading + gained
          → (carry' * 2 ^ m.width + plus m.width m.reading gained) % 2 ^ widened_width m.width bits
          ≡ (carry * 2 ^ m.width + m.reading + gained) % 2 ^ widened_width m.width bits
      wraps high =
          let next : carry' ≡ (carry + 1) % 2 ^ bits = carried ∙ cond-true _ _ _ (le-leb (2 ^ m.width) (m.reading + gained) high) in
          let e = once_round (2 ^ m.width) (m.reading + gained) high (omega (arith, law.reading_fits)) in
          let more = add-mul carry 1 (2 ^ m.width) in
          ap (λ n. (n * 2 ^ m.width + plus m.width m.reading gained) % 2 ^ widened_width m.width bits) next
          ∙ carry_drops m.width bits (widened_width m.width bits) (carry + 1) (plus m.width m.reading gained) (omega arith)
          ∙ ap (λ n. n % 2 ^ widened_width m.width bits) (omega arith)

  pub widened_advanced : (d carry' : ℕ) → d < m.reach → carry' ≡ carry_after bits carry (nat_le (2 ^ m.width) (m.reading + m.measure d))
      → widening_meaning (advanced m d) bits carry' ≡ advanced (widening_meaning m bits carry) d
  widened_advanced d carry' near carried =
      ap (λ n. record {
        width = widened_width m.width bits;
        reading = n;
        reach = m.reach;
        shown = λ ds e. m.shown (d ∷ ds) e;
        measure = λ x. m.measure (d + x) - m.measure d;
        tag = m.tag;
      }) (widened_on (m.measure d) carry' (gains_less m law d near).0 carried)

-- what the alarm below accepts, the layer accepts
pub widening_accepted : {X : Type 0} (m m' : Meaning X) (a a' : Appointment) (bits bits' carry carry' : ℕ) (kept kept' : Appointment) (sample : X) (gained width from : ℕ)
    → Lawful m → Accepted m a sample gained m' a' → bits' ≡ bits → carry' ≡ carry_after bits carry (nat_le (2 ^ m.width) (m.reading + gained))
    → width ≡ widened_width m.width bits → from ≡ (widening_meaning m bits carry).reading
    → within width kept' ≡ after_take width from gained (within width kept)
    → Accepted (widening_meaning m bits carry) (within (widened_width m.width bits) kept) sample gained
    (widening_meaning m' bits' carry') (within (widened_width m'.width bits') kept')
widening_accepted {X} m m' a a' bits bits' carry carry' kept kept' sample gained width from law taken same carried is here moved = record {
  ticks = taken.ticks;
  within = taken.within;
  shows = taken.shows;
  gain = taken.gain;
  clock =
      (λ i. widening_meaning (taken.clock i) (same i) carry')
      ∙ widened_advanced m law bits carry taken.ticks carry' taken.within
      (carried ∙ ap (λ n. carry_after bits carry (nat_le (2 ^ m.width) (m.reading + n))) taken.gain);
  appointment =
      kept_moved _ _ width _ from gained kept kept' is (λ i. widened_width (taken.clock i).width (same i)) here moved;
}
