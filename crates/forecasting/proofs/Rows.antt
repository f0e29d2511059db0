-- Rows into which firings are written one by one. Assumes nothing.
use Rattle.std.proofs.Common.{◌≡◌, ℕ, zero, suc, ◌+◌, ◌-◌, ◌*◌, ◌^◌, ◌<◌, ◌≤◌, Bool, true, false, cond, ltb, List, [], ◌∷◌, ◌++◌, map, length, drop, set, Some, None, sym, refl, ap, ◌∙◌, append_assoc, subst, add-one, arith}
use native.Mathlib.Nat.{sub-zero}
use Rattle.std.specs.List.{AllByRecursion}
use Rattle.std.specs.Option.{option_map}
use Rattle.std.proofs.ByRecursion.{All-weaker, all_shuffled}
use Rattle.std.proofs.lemmas.List.{length_push, append-nil}
use Rattle.queue.specs.declared.dues.Due.{Due}
use Rattle.queue.specs.Order.{in_order}
use Rattle.queue.proofs.Ordered.{shuffled_in_order}
use Rattle.jobs.specs.declared.Kind.{Kind}
use Rattle.jobs.specs.declared.Kind.TheVariants.{Once, Every, Burst}
use Rattle.forecasting.specs.declared.pending.Pending.{Pending}
use Rattle.forecasting.specs.Pending.{pending_order, pending_compare, again, put_back, fired_first, firings, first_due, after_first, spacing, goes_on, Calm}
use Rattle.forecasting.proofs.Firings.{all_inserted}

-- ---- moments stay small

pub all_in_order : (P : Pending → Type 0) (q : List Pending) → AllByRecursion P q → AllByRecursion P (in_order pending_compare q)
all_in_order P q h = all_shuffled P q (in_order pending_compare q) (shuffled_in_order pending_order q) h

pub calm_more : (b b' : ℕ) (q : List Pending) → b ≤ b' → AllByRecursion (Calm b) q → AllByRecursion (Calm b') q
calm_more b b' q h all = All-weaker (Calm b) (Calm b') (λ p c. (omega (arith, c.0), c.1)) q all

calm_again : (b : ℕ) (d : Due) (k : Kind) (q : List Pending) → d.moment < b → spacing k < 2 ^ 40 → AllByRecursion (Calm b) q → AllByRecursion (Calm (b + 2 ^ 40)) (put_back (again d k) q)
calm_again b d Once q early near all = calm_more b (b + 2 ^ 40) q (omega arith) all
calm_again b d (Every p) q early near all = all_inserted (Calm (b + 2 ^ 40)) _ q (omega arith, near) (calm_more b (b + 2 ^ 40) q (omega arith) all)
calm_again b d (Burst c p) q early near all = at (ltb 1 c)
  where
    at : (t : Bool) → AllByRecursion (Calm (b + 2 ^ 40)) (put_back (option_map (goes_on d) (cond t (Some (p, Burst (c - 1) p)) None)) q)
    at true = all_inserted (Calm (b + 2 ^ 40)) _ q (omega arith, near) (calm_more b (b + 2 ^ 40) q (omega arith) all)
    at false = calm_more b (b + 2 ^ 40) q (omega arith) all

-- ---- the loop

-- a row that begins with these firings, one more of them written
written_more : (f : Due → ℕ) (past : List Due) (d : Due) (row : List ℕ) → length past < length row
    → set (map f past ++ drop (length past) row) (length past) (f d) ≡ map f (past ++ d ∷ []) ++ drop (suc (length past)) row
written_more f [] d [] h = absurd (omega arith)
written_more f [] d (r ∷ rs) h = refl
written_more f (x ∷ past) d [] h = absurd (omega arith)
written_more f (x ∷ past) d (r ∷ rs) h = ap (λ ys. f x ∷ ys) (written_more f past d rs (omega arith))

-- after i of the firings ds, of which there may be n: the rows begin with them, and w is what still waits
pub record Sofar (n : ℕ) (ds : List Due) (moments slots : List ℕ) (i : ℕ) (moments' slots' : List ℕ) (w : List Pending) : Type 0 where
  pub past : List Due
  pub size : i ≡ length past
  pub whole : ds ≡ past ++ firings (n - i) w
  pub moments_are : moments' ≡ map (λ d. d.moment) past ++ drop i moments
  pub slots_are : slots' ≡ map (λ d. d.slot) past ++ drop i slots
  pub calm : AllByRecursion (Calm (2 ^ 62 + (i + 1) * 2 ^ 40)) w

pub sofar_none : (n : ℕ) (w : List Pending) (moments slots : List ℕ) → AllByRecursion (Calm (2 ^ 62 + 2 ^ 40)) w → Sofar n (firings n w) moments slots 0 moments slots w
sofar_none n w moments slots calm = record {
  past = [];
  size = refl;
  whole = ap (λ m. firings m w) (sym (sub-zero n));
  moments_are = refl;
  slots_are = refl;
  calm = calm_more (2 ^ 62 + 2 ^ 40) (2 ^ 62 + (0 + 1) * 2 ^ 40) w (omega arith) calm;
}

firings_nil : (n : ℕ) → firings n [] ≡ []
firings_nil zero = refl
firings_nil (suc n) = refl

module _ (n : ℕ) (ds : List Due) (moments slots : List ℕ) (i : ℕ) (moments' slots' : List ℕ) where
  more_by : (w : List Pending) (d : Due) → Some d ≡ first_due w → i < n → i < length moments → i < length slots → Sofar n ds moments slots i moments' slots' w
      → Sofar n ds moments slots (suc i) (set moments' i d.moment) (set slots' i d.slot) (after_first w)
  more_by [] d e h hm hs s = cc
  more_by (p ∷ q) d e h hm hs s =
      let same : p.due ≡ d = cc in
      let k : n - i ≡ suc (n - suc i) = omega arith in
      let rest = firings (n - suc i) (fired_first p q) in
      let step : (f : Due → ℕ) (row row' : List ℕ) → i < length row → row' ≡ map f s.past ++ drop i row → set row' i (f d) ≡ map f (s.past ++ d ∷ []) ++ drop (suc i) row =
      λ f row row' within e. ap (λ r. set r i (f d)) e
      ∙ ap (λ j. set (map f s.past ++ drop j row) j (f d)) s.size
      ∙ written_more f s.past d row (omega (arith, s.size))
      ∙ ap (λ j. map f (s.past ++ d ∷ []) ++ drop (suc j) row) (sym s.size) in
      record {
        past = s.past ++ d ∷ [];
        size = omega (arith, s.size, length_push s.past d);
        whole =
            s.whole
            ∙ ap (λ m. s.past ++ firings m (p ∷ q)) k
            ∙ ap (λ x. s.past ++ x ∷ rest) same
            ∙ sym (append_assoc s.past (d ∷ []) rest);
        moments_are = step (λ x. x.moment) moments moments' hm s.moments_are;
        slots_are = step (λ x. x.slot) slots slots' hs s.slots_are;
        calm = calm_more (2 ^ 62 + (i + 1) * 2 ^ 40 + 2 ^ 40) (2 ^ 62 + (suc i + 1) * 2 ^ 40) (fired_first p q) (omega arith)
            (calm_again (2 ^ 62 + (i + 1) * 2 ^ 40) p.due p.kind q s.calm.0.0 s.calm.0.1 s.calm.1);
      }

  pub sofar_more : (w w' : List Pending) (d : Due) → Some d ≡ first_due w → w' ≡ after_first w → i < n → i < length moments → i < length slots → Sofar n ds moments slots i moments' slots' w
      → Sofar n ds moments slots (i + 1) (set moments' i d.moment) (set slots' i d.slot) w'
  sofar_more w w' d e is h hm hs s =
      let F : ℕ → Type 0 = λ j. Sofar n ds moments slots j (set moments' i d.moment) (set slots' i d.slot) w' in
      let G : List Pending → Type 0 = λ v. Sofar n ds moments slots (suc i) (set moments' i d.moment) (set slots' i d.slot) v in
      subst F (sym (add-one i)) (subst G (sym is) (more_by w d e h hm hs s))

  -- all firings are written
  pub record Done : Type 0 where
    pub size : i ≡ length ds
    pub moments_are : moments' ≡ map (λ d. d.moment) ds ++ drop (length ds) moments
    pub slots_are : slots' ≡ map (λ d. d.slot) ds ++ drop (length ds) slots

  done_by : (w : List Pending) → firings (n - i) w ≡ [] → Sofar n ds moments slots i moments' slots' w → Done
  done_by w e s =
      let all : s.past ≡ ds = sym (s.whole ∙ ap (λ l. s.past ++ l) e ∙ append-nil s.past) in
      let size : i ≡ length ds = s.size ∙ ap length all in
      record {
        size = size;
        moments_are = s.moments_are ∙ ap (λ x. map (λ (d : Due). d.moment) x ++ drop i moments) all ∙ ap (λ j. map (λ (d : Due). d.moment) ds ++ drop j moments) size;
        slots_are = s.slots_are ∙ ap (λ x. map (λ (d : Due). d.slot) x ++ drop i slots) all ∙ ap (λ j. map (λ (d : Due). d.slot) ds ++ drop j slots) size;
      }

  first_none : (w : List Pending) → None ≡ first_due w → w ≡ []
  first_none [] e = refl
  first_none (p ∷ q) e = absurd (let z : ◌≡◌ {A = ℕ} 0 1 = cc in omega arith)

  -- none waits any more
  pub done_early : (w : List Pending) → None ≡ first_due w → Sofar n ds moments slots i moments' slots' w → Done
  done_early w e s = done_by w (ap (firings (n - i)) (first_none w e) ∙ firings_nil (n - i)) s

  -- the rows have place for no more
  pub done_full : (w : List Pending) → n ≤ i → Sofar n ds moments slots i moments' slots' w → Done
  done_full w h s = let z : n - i ≡ 0 = omega arith in done_by w (ap (λ m. firings m w) z) s
