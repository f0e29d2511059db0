-- A clock whose reading is set forward keeps the laws of a clock, and moves as a clock moves. Assumes nothing.
use Rattle.std.specs.Prelude.{◌≡◌, ℕ, ◌+◌, ◌-◌, ◌%◌, ◌^◌, ◌<◌, ◌≤◌, Bool, true, false, cond, ◌&&◌, ◌∷◌, Some, Ok, Err, Result, nat_lt, refl}
use Rattle.std.proofs.Common.{sym, ap, ◌∙◌, mod-lt, arith, pow_pos, pow_mono}
use Rattle.std.proofs.Math.Nat.{mod-add-mod, add-mod-mod, add-mod_right}
use Rattle.std.proofs.lemmas.Bool.{lt-ltb}
use Rattle.fault.specs.declared.Fault.{Fault}
use Rattle.fault.specs.Table.{alarm_limits}
use Rattle.clock.specs.declared.appointment.Appointment.{Appointment}
use Rattle.clock.specs.declared.appointment.Appointment.TheVariants.{Idle, Standing, Due}
use Rattle.clock.specs.Wrap.{plus, minus}
use Rattle.clock.specs.Meaning.{Meaning, Lawful, advanced}
use Rattle.clock.specs.Appointment.{Sound, after_take, placed, set_row, setting, told, left_by, claims}
use Rattle.clock.specs.Making.{seen}
use Rattle.offset.specs.Offset.{offset_meaning, shifted}
use Rattle.clock.specs.Calls.{Taken, SetTo}
use Rattle.clock.proofs.Turning.{same_place, there_and_back}

-- readings of a turn of n, set forward by k; the reference is turned back
module _ (n : ℕ) (some : 0 < n) (k : ℕ) where
  forward_on : (a b : ℕ) → ((a + b) % n + k) % n ≡ ((a + k) % n + b) % n
  forward_on a b =
      let regroup : a + b + k ≡ a + k + b = omega arith in
      mod-add-mod (a + b) n k ∙ ap (λ x. x % n) regroup ∙ sym (mod-add-mod (a + k) n b)

  module _ (reference : ℕ) (fits : reference < n) where
    forward_again : (delay : ℕ) → (((reference + (n - k % n)) % n + delay) % n + k) % n ≡ (reference + delay) % n
    forward_again delay =
        let regroup : reference + (n - k % n) + delay + k ≡ reference + delay + (n - k % n) + k = omega arith in
        mod-add-mod ((reference + (n - k % n)) % n + delay) n k
        ∙ ap (λ x. x % n) (add_three ((reference + (n - k % n)) % n) delay k)
        ∙ mod-add-mod (reference + (n - k % n)) n (delay + k)
        ∙ ap (λ x. x % n) (sym (add_three (reference + (n - k % n)) delay k) ∙ regroup)
        ∙ there_and_back n some (reference + delay) k
      where
        add_three : (a b c : ℕ) → a + b + c ≡ a + (b + c)
        add_three a b c = omega arith

    -- it is as old there as the reference is here
    same_age : (reading : ℕ) → (reading + (n - (reference + (n - k % n)) % n)) % n ≡ ((reading + k) % n + (n - reference)) % n
    same_age reading =
        let b = (reference + (n - k % n)) % n in
        let low : b < n = mod-lt _ some in
        let all : reading + (n - b) + b ≡ reading + n = omega arith in
        let left : ((reading + (n - b)) % n + b) % n ≡ reading % n =
        mod-add-mod (reading + (n - b)) n b ∙ ap (λ x. x % n) all ∙ add-mod_right reading n in
        let regroup : (reading + k) + (n - reference) + (reference + (n - k % n)) ≡ reading + n + (n - k % n) + k = omega arith in
        let right : (((reading + k) % n + (n - reference)) % n + b) % n ≡ reading % n =
        mod-add-mod ((reading + k) % n + (n - reference)) n b
        ∙ add-mod-mod ((reading + k) % n + (n - reference)) (reference + (n - k % n)) n
        ∙ ap (λ x. x % n) (assoc ((reading + k) % n) (n - reference) (reference + (n - k % n)))
        ∙ mod-add-mod (reading + k) n (n - reference + (reference + (n - k % n)))
        ∙ ap (λ x. x % n) (sym (assoc (reading + k) (n - reference) (reference + (n - k % n))) ∙ regroup)
        ∙ there_and_back n some (reading + n) k ∙ add-mod_right reading n in
        same_place n some _ _ b (mod-lt _ some) (mod-lt _ some) (left ∙ sym right)
      where
        assoc : (a b c : ℕ) → a + b + c ≡ a + (b + c)
        assoc a b c = omega arith

module _ (w by : ℕ) where
  -- an event below, seen from above
  pub shifted_take : (reading gained : ℕ) (a : Appointment)
      → shifted w by (after_take w reading gained a) ≡ after_take w (plus w reading by) gained (shifted w by a)
  shifted_take reading gained Idle = refl
  shifted_take reading gained (Standing left) = at (nat_lt gained left)
    where
      at : (t : Bool) → shifted w by (cond t (Standing (left - gained)) (Due (plus w reading left)))
          ≡ cond t (Standing (left - gained)) (Due (plus w (plus w reading by) left))
      at true = refl
      at false = ap (λ n. Due n) (forward_on (2 ^ w) (pow_pos w) by reading left)
  shifted_take reading gained (Due point) = refl

  module _ (reading reference delay : ℕ) (fits : reference < 2 ^ w) where
    shifted_placed : shifted w by (placed w reading (minus w reference (by % 2 ^ w)) delay) ≡ placed w (plus w reading by) reference delay
    shifted_placed =
        at (nat_lt (minus w reading (minus w reference (by % 2 ^ w))) delay)
        ∙ ap (λ age. cond (nat_lt age delay) (Standing (delay - age)) (Due (plus w reference delay)))
        (same_age (2 ^ w) (pow_pos w) by reference fits reading)
      where
        at : (t : Bool)
            → shifted w by (cond t (Standing (delay - minus w reading (minus w reference (by % 2 ^ w)))) (Due (plus w (minus w reference (by % 2 ^ w)) delay)))
            ≡ cond t (Standing (delay - minus w reading (minus w reference (by % 2 ^ w)))) (Due (plus w reference delay))
        at true = refl
        at false = ap (λ n. Due n) (forward_again (2 ^ w) (pow_pos w) by reference fits delay)

    shifted_row : (a : Appointment)
        → seen (shifted w by) (set_row w reading (minus w reference (by % 2 ^ w)) delay a) ≡ set_row w (plus w reading by) reference delay (shifted w by a)
    shifted_row Idle = ap (λ (a : Appointment). Ok a) shifted_placed
    shifted_row (Standing left) = refl
    shifted_row (Due point) = refl

    pub shifted_setting : (a : Appointment)
        → seen (shifted w by) (setting w reading (minus w reference (by % 2 ^ w)) delay a) ≡ setting w (plus w reading by) reference delay (shifted w by a)
    shifted_setting a =
        ap (λ t. seen (shifted w by) (cond (t && nat_lt delay (2 ^ w)) (set_row w reading (minus w reference (by % 2 ^ w)) delay a) (Err alarm_limits)))
        (lt-ltb _ _ (mod-lt _ (pow_pos w)))
        ∙ at (nat_lt delay (2 ^ w))
        ∙ ap (λ t. cond (t && nat_lt delay (2 ^ w)) (set_row w (plus w reading by) reference delay (shifted w by a)) (Err alarm_limits)) (sym (lt-ltb _ _ fits))
      where
        at : (t : Bool) → seen (shifted w by) (cond (true && t) (set_row w reading (minus w reference (by % 2 ^ w)) delay a) (Err alarm_limits))
            ≡ cond (true && t) (set_row w (plus w reading by) reference delay (shifted w by a)) (Err alarm_limits)
        at true = shifted_row a
        at false = refl

told_seen : (f : Appointment → Appointment) (r : Result Appointment Fault) → told (seen f r) ≡ told r
told_seen f (Ok a) = refl
told_seen f (Err e) = refl

left_seen : (f : Appointment → Appointment) (r : Result Appointment Fault) (a : Appointment) → left_by (seen f r) (f a) ≡ f (left_by r a)
left_seen f (Ok b) a = refl
left_seen f (Err e) a = refl

module _ {X : Type 0} (m : Meaning X) (law : Lawful m) (by : ℕ) where
  pub offset_lawful : Lawful (offset_meaning m by)
  offset_lawful = record {
    width_low = law.width_low;
    width_high = law.width_high;
    reading_fits = mod-lt _ (pow_pos m.width);
    reach_low = law.reach_low;
    reach_high = law.reach_high;
    reach_fits = law.reach_fits;
    counts = law.counts;
    apart = law.apart;
  }

  pub offset_advanced : (d : ℕ) → offset_meaning (advanced m d) by ≡ advanced (offset_meaning m by) d
  offset_advanced d = λ i. record {
    width = m.width;
    reading = forward_on (2 ^ m.width) (pow_pos m.width) by m.reading (m.measure d) i;
    reach = m.reach;
    shown = λ ds e. m.shown (d ∷ ds) e;
    measure = λ x. m.measure (d + x) - m.measure d;
    tag = m.tag;
  }

  -- a take of the alarm below is one of the layer
  pub offset_taken : (m' : Meaning X) (a a' : Appointment) (sample : X) (r : Result ℕ Fault) → Taken m a sample r m' a'
      → Taken (offset_meaning m by) (shifted m.width by a) sample r (offset_meaning m' by) (shifted m'.width by a')
  offset_taken m' a a' sample (Ok gained) taken = record {
    ticks = taken.ticks;
    within = taken.within;
    shows = taken.shows;
    gain = taken.gain;
    clock = ap (λ x. offset_meaning x by) taken.clock ∙ offset_advanced taken.ticks;
    appointment =
        ap (λ (x : Meaning X). shifted x.width by a') taken.clock ∙ ap (shifted m.width by) taken.appointment
        ∙ shifted_take m.width by m.reading gained a;
  }
  offset_taken m' a a' sample (Err fault) stray = record {
    never = stray.never;
    why = stray.why;
    clock = ap (λ x. offset_meaning x by) stray.clock;
    appointment = ap (λ (x : Meaning X). shifted x.width by a') stray.clock ∙ ap (shifted m.width by) stray.appointment;
  }

  -- and so is a set, with the reference turned back
  pub offset_set : (m' : Meaning X) (a a' : Appointment) (reference delay back : ℕ) (r : Result (Unit {0}) Fault) → reference < 2 ^ m.width
      → back ≡ minus m.width reference (by % 2 ^ m.width) → SetTo m a back delay r m' a'
      → SetTo (offset_meaning m by) (shifted m.width by a) reference delay r (offset_meaning m' by) (shifted m'.width by a')
  offset_set m' a a' reference delay back r fits is set =
      let f = shifted m.width by in
      let same : seen f (setting m.width m.reading back delay a) ≡ setting m.width (plus m.width m.reading by) reference delay (f a) =
      ap (λ n. seen f (setting m.width m.reading n delay a)) is ∙ shifted_setting m.width by m.reading reference delay fits a in
      record {
        answer = set.answer ∙ sym (told_seen f (setting m.width m.reading back delay a)) ∙ ap told same;
        clock = ap (λ x. offset_meaning x by) set.clock;
        appointment =
            ap (λ (x : Meaning X). shifted x.width by a') set.clock ∙ ap f set.appointment
            ∙ sym (left_seen f (setting m.width m.reading back delay a) a)
            ∙ ap (λ s. left_by s (f a)) same;
      }

-- a point that is claimed is a reading
pub claimed_fits : (w point : ℕ) (a : Appointment) → w ≤ 48 → Sound w a → Some point ≡ claims a → point < 2 ^ 48
claimed_fits w point Idle narrow sound e = let z : ◌≡◌ {A = ℕ} 0 1 = cc in absurd (omega arith)
claimed_fits w point (Standing left) narrow sound e = let z : ◌≡◌ {A = ℕ} 0 1 = cc in absurd (omega arith)
claimed_fits w point (Due p) narrow sound e =
    let same : point ≡ p = cc in
    let top : 2 ^ w ≤ 2 ^ 48 = pow_mono narrow in
    omega arith
