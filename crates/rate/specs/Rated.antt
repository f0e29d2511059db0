-- A clock at a rate keeps the laws of a clock, and moves as a clock moves. Assumes nothing.
use Rattle.std.specs.Prelude.{◌≡◌, ℕ, zero, suc, ◌+◌, ◌-◌, ◌*◌, ◌/◌, ◌%◌, ◌^◌, ◌<◌, ◌≤◌, ◌∷◌, nat_le}
use Rattle.std.specs.Int.{div_ceil}
use Rattle.std.proofs.Common.{sym, ap, ◌∙◌, ⊎_elim, mod-lt, mul-add, add-mul, mul_comm, add-suc, add-zero, mul-zero, mul-le-mul_left, div-mul-le_self, add-one, arith, pow_pos}
use Rattle.std.proofs.Math.Path.{fun_ext}
use Rattle.std.proofs.Math.Nat.{mod-add-mod, mul-add-div, div-eq_of_lt, div-add-mod, add-div_right}
use Rattle.std.proofs.lemmas.Grind.{div_ceil_times}
use Rattle.std.proofs.lemmas.Nat.{le-div, mul-le}
use Rattle.std.proofs.lemmas.Bool.{le-leb, lt-leb, cases_lt}
use Rattle.clock.specs.Wrap.{plus}
use Rattle.clock.specs.Meaning.{Meaning, Counts, Lawful, advanced}
use Rattle.clock.specs.Hold.{first_from, wait_for}
use Rattle.rate.specs.Rate.{rate_meaning, needed}
use Rattle.clock.specs.declared.appointment.Appointment.{Appointment}
use Rattle.clock.specs.Appointment.{after_take}
use Rattle.clock.specs.Kept.{within}
use Rattle.clock.specs.Calls.{Accepted}
use Rattle.clock.proofs.Wrapping.{turns_dropped}
use Rattle.clock.proofs.Keeping.{kept_moved}

-- a measure does not fall
pub measure_mono : {g : ℕ → ℕ} → Counts g → (d x : ℕ) → g d ≤ g (d + x)
measure_mono {g} c d zero = rw (add-zero d) (omega arith)
measure_mono {g} c d (suc x) = rw (add-suc d x, ← add-one) (omega (arith, measure_mono c d x, c.grows (d + x)))

-- a test that holds exactly when another does
leb_same : (a b c d : ℕ) → (a ≤ b → c ≤ d) → (c ≤ d → a ≤ b) → nat_le a b ≡ nat_le c d
leb_same a b c d to from =
    ⊎_elim (λ (h : b < a). lt-leb a b h ∙ sym (lt-leb c d (above h))) (λ (h : a ≤ b). le-leb a b h ∙ sym (le-leb c d (to h))) (cases_lt b a)
  where
    above : b < a → d < c
    above h = ⊎_elim (λ (k : d < c). k) (λ (k : c ≤ d). absurd (omega (arith, from k))) (cases_lt d c)

div_mono : (a b p : ℕ) → 0 < p → a ≤ b → a / p ≤ b / p
div_mono a b p some low = le-div (a / p) b p some (omega (arith, div-mul-le_self a p))

-- a quotient rounded up is at most y exactly when the product is enough
div_ceil_le : (a q y : ℕ) → 0 < q → a ≤ q * y → div_ceil a q ≤ y
div_ceil_le a q y some enough =
    ⊎_elim
    (λ (h : y < div_ceil a q).
    let more : (y + 1) * q ≤ div_ceil a q * q = mul-le (y + 1) q (div_ceil a q) q (omega arith) (omega arith) in
    absurd (omega (arith, (div_ceil_times a q some).1, more, add-mul y 1 q, mul_comm q y)))
    (λ (h : div_ceil a q ≤ y). h)
    (cases_lt y (div_ceil a q))

div_ceil_enough : (a q y : ℕ) → 0 < q → div_ceil a q ≤ y → a ≤ q * y
div_ceil_enough a q y some high =
    let less : div_ceil a q * q ≤ y * q = mul-le (div_ceil a q) q y q high (omega arith) in
    omega (arith, (div_ceil_times a q some).0, less, mul_comm q y)

-- q/p is the rate, r the remainder
module _ (q p r : ℕ) (some : 1 ≤ q) (slow : q ≤ p) (small : r < p) where
  pub rated_counts : (g : ℕ → ℕ) → Counts g → Counts (λ d. (r + q * g d) / p)
  rated_counts g c = record {
    nought = ap (λ n. (r + q * n) / p) c.nought ∙ ap (λ n. (r + n) / p) (mul-zero q) ∙ ap (λ n. n / p) (add-zero r) ∙ div-eq_of_lt small;
    grows = λ d. div_mono (r + q * g d) (r + q * g (d + 1)) p (omega arith) (omega (arith, mul-le-mul_left q (c.grows d)));
    slow = λ d.
        let one = add-div_right (r + q * g d) {k = p} (omega arith) in
        let more = div_mono (r + q * g (d + 1)) (r + q * g d + p) p (omega arith)
        (omega (arith, mul-le-mul_left q (c.slow d), mul-add q (g d) 1)) in
        omega arith;
  }

  -- what was gained and what is gained next come to what is gained together
  pub gains_add : (y z : ℕ) → y ≤ z → ((r + q * y) % p + q * (z - y)) / p ≡ (r + q * z) / p - (r + q * y) / p
  gains_add y z low =
      let n = r + q * y in
      let all : r + q * z ≡ p * (n / p) + (n % p + q * (z - y)) =
      omega (arith, div-add-mod n p, mul-add q y (z - y), ap (λ x. q * x) sum) in
      let split : (r + q * z) / p ≡ n / p + (n % p + q * (z - y)) / p = ap (λ x. x / p) all ∙ mul-add-div {m = p} (omega arith) (n / p) (n % p + q * (z - y)) in
      omega arith
    where
      sum : z ≡ y + (z - y)
      sum = omega arith

  -- the clock above has come to what is left exactly when the clock below has come to what that needs
  pub needs_same : (left y : ℕ) → nat_le left ((r + q * y) / p) ≡ nat_le (needed q p r left) y
  needs_same left y = leb_same left ((r + q * y) / p) (needed q p r left) y to from
    where
      to : left ≤ (r + q * y) / p → needed q p r left ≤ y
      to h =
          div_ceil_le (p * left - r) q y some
          (omega (arith, mul-le-mul_left p h, div-add-mod (r + q * y) p))

      from : needed q p r left ≤ y → left ≤ (r + q * y) / p
      from h = le-div left (r + q * y) p (omega arith) (omega (arith, div_ceil_enough (p * left - r) q y some h, mul_comm p left))

  module _ {X : Type 0} (m : Meaning X) (law : Lawful m) (count : ℕ) where
    pub rate_lawful : Lawful (rate_meaning m q p r count)
    rate_lawful = record {
      width_low = law.width_low;
      width_high = law.width_high;
      reading_fits = mod-lt count (pow_pos m.width);
      reach_low = law.reach_low;
      reach_high = law.reach_high;
      reach_fits = law.reach_fits;
      counts = rated_counts m.measure law.counts;
      apart = law.apart;
    }

    -- the wait for what is left is the wait below for what that needs
    pub rate_wait : (left : ℕ) → wait_for m (needed q p r left) ≡ wait_for (rate_meaning m q p r count) left
    rate_wait left =
        ap (λ test. first_from test (m.reach - 1) 0 m.reach) (fun_ext (λ d. sym (needs_same left (m.measure d))))

    pub rate_advanced : (d count' : ℕ) → count' ≡ (count + (r + q * m.measure d) / p) % 2 ^ 64
        → rate_meaning (advanced m d) q p ((r + q * m.measure d) % p) count' ≡ advanced (rate_meaning m q p r count) d
    rate_advanced d count' counted = λ i. record {
      width = m.width;
      reading = reads i;
      reach = m.reach;
      shown = λ ds e. m.shown (d ∷ ds) e;
      measure = λ x. gains_add (m.measure d) (m.measure (d + x)) (measure_mono law.counts d x) i;
      tag = m.tag;
    }
      where
        reads : count' % 2 ^ m.width ≡ plus m.width (count % 2 ^ m.width) ((r + q * m.measure d) / p)
        reads =
            ap (λ n. n % 2 ^ m.width) counted ∙ turns_dropped m.width (count + (r + q * m.measure d) / p) (omega (arith, law.width_high))
            ∙ sym (mod-add-mod count (2 ^ m.width) ((r + q * m.measure d) / p))

    -- what the alarm below accepts, the layer accepts, and gains by its rate
    pub rate_accepted : (m' : Meaning X) (a a' : Appointment) (q' p' r' count' : ℕ) (kept kept' : Appointment) (sample : X) (ticks gained width from : ℕ)
        → Accepted m a sample ticks m' a' → q' ≡ q → p' ≡ p → r' ≡ (r + q * ticks) % p → gained ≡ (r + q * ticks) / p
        → count' ≡ (count + gained) % 2 ^ 64 → width ≡ m.width → from ≡ count % 2 ^ m.width
        → within width kept' ≡ after_take width from gained (within width kept)
        → Accepted (rate_meaning m q p r count) (within m.width kept) sample gained (rate_meaning m' q' p' r' count') (within m'.width kept')
    rate_accepted m' a a' q' p' r' count' kept kept' sample ticks gained width from taken is-q is-p rest gain counted is here moved = record {
      ticks = taken.ticks;
      within = taken.within;
      shows = taken.shows;
      gain = gains;
      clock =
          (λ i. rate_meaning (taken.clock i) (is-q i) (is-p i) ((rest ∙ ap (λ n. (r + q * n) % p) taken.gain) i) count')
          ∙ rate_advanced taken.ticks count' (counted ∙ ap (λ n. (count + n) % 2 ^ 64) gains);
      appointment = kept_moved _ _ width _ from gained kept kept' is (ap (λ (x : Meaning X). x.width) taken.clock) here moved;
    }
      where
        gains : gained ≡ (r + q * m.measure taken.ticks) / p
        gains = gain ∙ ap (λ n. (r + q * n) / p) taken.gain

-- the products that the code forms fit
pub parts_fit : (q p r ticks : ℕ) → q ≤ p → p ≤ 4096 → r < p → ticks < 2 ^ 32 → r + q * ticks < 2 ^ 64
parts_fit q p r ticks slow high small few =
    let product : q * ticks ≤ 4096 * 2 ^ 32 = mul-le q ticks 4096 (2 ^ 32) (omega arith) (omega arith) in
    omega arith

pub left_fits : (p left : ℕ) → p ≤ 4096 → left ≤ 2 ^ 48 → p * left < 2 ^ 64
left_fits p left high fits =
    let product : p * left ≤ 4096 * 2 ^ 48 = mul-le p left 4096 (2 ^ 48) high fits in
    omega arith

pub left_above : (p r left : ℕ) → r < p → 1 ≤ left → r ≤ p * left
left_above p r left small some = omega (arith, mul-le-mul_left p some)
