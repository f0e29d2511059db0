-- The down-counter keeps the laws of a clock, and moves as a clock moves. Assumes nothing.
use Rattle.std.specs.Prelude.{◌≡◌, ℕ, ◌+◌, ◌-◌, ◌%◌, ◌^◌, ◌<◌, ◌≤◌, min, List, refl}
use Rattle.std.proofs.Common.{sym, ap, ◌∙◌, ⊎_elim, mod-lt, zero-add, arith}
use Rattle.std.proofs.Math.Nat.{mod-add-mod, add-mod_right}
use Rattle.std.proofs.lemmas.Bool.{cases_lt, lt-ltb, le-ltb, cond-true, cond-false}
use Rattle.clock.specs.Wrap.{plus}
use Rattle.clock.specs.Meaning.{Lawful, advanced, total}
use Rattle.down.specs.Down.{back, fallen, down_meaning}
use Rattle.down.specs.declared.down.Count.{Count}
use Rattle.clock.specs.declared.appointment.Appointment.{Appointment}
use Rattle.clock.specs.Appointment.{after_take}
use Rattle.clock.specs.Calls.{Accepted}
use Rattle.clock.specs.Hold.{wait_for}
use Rattle.clock.proofs.Wrapping.{add_cancel}
use Rattle.clock.proofs.Turning.{same_place, there_and_back}
use Rattle.clock.proofs.Waiting.{each_tick, steady_wait}

-- n is the length of a round
module _ (n : ℕ) (some : 0 < n) where
  -- going back s and on by s again comes to where it began
  pub back_on : (a s : ℕ) → (back n a s + s) % n ≡ a % n
  back_on a s = mod-add-mod (a + (n - s % n)) n s ∙ there_and_back n some a s

  pub back_is : (a s x : ℕ) → x < n → (x + s) % n ≡ a % n → x ≡ back n a s
  back_is a s x hx on = same_place n some x (back n a s) s hx (mod-lt _ some) (on ∙ sym (back_on a s))

  -- a way back in two parts
  pub back_back : (a b s t : ℕ) → (b + s) % n ≡ a % n → back n b t ≡ back n a (s + t)
  back_back a b s t on =
      back_is a (s + t) (back n b t) (mod-lt _ some)
      (ap (λ x. x % n) regroup ∙ sym (mod-add-mod (back n b t + t) n s) ∙ ap (λ x. (x + s) % n) (back_on b t) ∙ mod-add-mod b n s ∙ on)
    where
      regroup : back n b t + (s + t) ≡ back n b t + t + s
      regroup = omega arith

  pub back_apart : (a d e : ℕ) → d < n → e < n → back n a d ≡ back n a e → d ≡ e
  back_apart a d e hd he same =
      add_cancel n (back n a d) d e (mod-lt _ some) hd he
      (back_on a d ∙ sym (back_on a e) ∙ ap (λ x. (x + e) % n) (sym same))

-- less than a round has passed
pub fell_less : (reload last now d : ℕ) → last ≤ reload → now ≤ reload → d ≡ fallen reload last now → d < reload + 1
fell_less reload last now d there low fell =
    ⊎_elim
    (λ (h : last < now). omega (arith, fell ∙ cond-true _ _ _ (lt-ltb last now h)))
    (λ (h : now ≤ last). omega (arith, fell ∙ cond-false _ _ _ (le-ltb last now h)))
    (cases_lt last now)

module _ (reload last reading tag : ℕ) where
  pub down_lawful : 1 ≤ reload → reload < 2 ^ 24 → reading < 2 ^ 32 → Lawful (down_meaning reload last reading tag)
  down_lawful low high fits = record {
    width_low = omega arith;
    width_high = omega arith;
    reading_fits = fits;
    reach_low = omega arith;
    reach_high = omega arith;
    reach_fits = omega arith;
    counts = each_tick;
    apart = λ d e hd he same. back_apart (reload + 1) (omega arith) last d e hd he (at_once d e (ap (λ (x : Count). x.0) same));
  }
    where
      at_once : (d e : ℕ) → back (reload + 1) last (0 + d) ≡ back (reload + 1) last (0 + e) → back (reload + 1) last d ≡ back (reload + 1) last e
      at_once d e = simp zero-add (λ same. same)

  -- from the count last to the count now in d ticks
  pub down_advanced : (now d : ℕ) → (now + d) % (reload + 1) ≡ last % (reload + 1)
      → down_meaning reload now (plus 32 reading d) tag ≡ advanced (down_meaning reload last reading tag) d
  down_advanced now d on = λ i. record {
    width = 32;
    reading = plus 32 reading d;
    reach = reload + 1;
    shown = λ ds e. record { 0 = shows ds e i };
    measure = λ x. gains x i;
    tag = tag;
  }
    where
      shows : (ds : List ℕ) (e : ℕ) → back (reload + 1) now (total ds + e) ≡ back (reload + 1) last (d + total ds + e)
      shows ds e =
          back_back (reload + 1) (omega arith) last now d (total ds + e) on
          ∙ ap (back (reload + 1) last) (omega arith)

      gains : (x : ℕ) → x ≡ d + x - d
      gains x = omega arith

  -- the wait of a clock that gains each tick is what is left, capped below the reach
  pub down_wait : (left : ℕ) → min left reload ≡ wait_for (down_meaning reload last reading tag) left
  down_wait left =
      let longest : reload ≡ reload + 1 - 1 = omega arith in
      ap (min left) longest ∙ steady_wait (down_meaning reload last reading tag) left (λ d. refl)

  -- a count that the counter can show was accepted
  pub down_accepted : (now d reading' : ℕ) (a a' : Appointment) → last ≤ reload → now ≤ reload → d ≡ fallen reload last now
      → reading' ≡ plus 32 reading d → a' ≡ after_take 32 reading d a
      → Accepted (down_meaning reload last reading tag) a (record { 0 = now }) d (down_meaning reload now reading' tag) a'
  down_accepted now d reading' a a' there low fell read moved = record {
    ticks = d;
    within = near;
    shows = ap (λ n. record { 0 = n }) (back_is (reload + 1) (omega arith) last d now (omega arith) on ∙ ap (back (reload + 1) last) (sym (zero-add d)));
    gain = refl;
    clock = ap (λ n. down_meaning reload now n tag) read ∙ down_advanced now d on;
    appointment = moved;
  }
    where
      near : d < reload + 1
      near = fell_less reload last now d there low fell

      on : (now + d) % (reload + 1) ≡ last % (reload + 1)
      on =
          ⊎_elim
          (λ (h : last < now).
          let e : now + d ≡ last + (reload + 1) = omega (arith, fell ∙ cond-true _ _ _ (lt-ltb last now h)) in
          ap (λ x. x % (reload + 1)) e ∙ add-mod_right last (reload + 1))
          (λ (h : now ≤ last).
          let e : now + d ≡ last = omega (arith, fell ∙ cond-false _ _ _ (le-ltb last now h)) in
          ap (λ x. x % (reload + 1)) e)
          (cases_lt last now)
