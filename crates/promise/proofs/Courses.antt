-- The course of a run: the log before each event, whether it is emptied there, and how both go from event to event. Assumes nothing.
use Rattle.std.proofs.Common.{◌≡◌, ℕ, zero, suc, ◌<◌, ◌≤◌, Bool, true, ◌||◌, T, ◌⊎◌, List, [], ◌∷◌, length, take, replicate, Some, refl, ap, ◌∙◌, subst, inl, inr, arith}
use Rattle.std.proofs.lemmas.List.{get_or-replicate, get_or_past}
use Rattle.std.proofs.lemmas.Bool.{cases_lt}
use Rattle.std.specs.List.{slice_get}
use Rattle.jobs.specs.declared.Slot.{Slot}
use Rattle.jobs.specs.declared.Slot.TheVariants.{Free}
use Rattle.logger.specs.State.{Log, slot_of}
use Rattle.promise.specs.Runs.{Event, Run, done, then, Step, is_next, emptied_by, Emptied}
use Rattle.promise.specs.Words.{moment_after, At}
use Rattle.promise.proofs.Changes.{Change, changed}
use Rattle.promise.proofs.Frames.{framed}

module _ {X : Type 0} where
  -- the log before the event at n, or at the end
  state_at : {l l' : Log X} {es : List (Event X)} → Run l es l' → ℕ → Log X
  state_at {l} r zero = l
  state_at {l} done (suc n) = l
  state_at {l = l} {l' = l'} (then {m = m} {e = e} {es = es} a r) (suc n) = state_at {l = m} r n

  emptied_at : Bool → List (Event X) → ℕ → Bool
  emptied_at b es zero = b
  emptied_at b [] (suc n) = b
  emptied_at b (e ∷ es) (suc n) = emptied_at (emptied_by b e) es n

  step_at : {l l' : Log X} {es : List (Event X)} (r : Run l es l') (n : ℕ) (e : Event X) → At es n e → Step (state_at r n) e (state_at r (suc n))
  unfolding state_at
  step_at done n e at = cc
  step_at (then {l = l} {m = m} {e = x} a r) zero e at = let is : x ≡ e = cc in subst (λ (x : Event X). Step l x m) is a
  step_at (then a r) (suc n) e at = step_at r n e at

  moment_state : {l l' : Log X} {es : List (Event X)} (r : Run l es l') (n : ℕ) → (state_at r n).moment ≡ moment_after l.moment (take n es)
  unfolding state_at
  moment_state r zero = refl
  moment_state done (suc n) = refl
  moment_state (then {l = l} {m = m} {e = e} {es = es} a r) (suc n) =
      moment_state {l = m} r n ∙ ap (λ k. moment_after k (take n es)) (framed l m e a).moment

  sized_at : {l l' : Log X} {es : List (Event X)} (r : Run l es l') → length l.slots ≡ 32 → (n : ℕ) → length (state_at r n).slots ≡ 32
  unfolding state_at
  sized_at r size zero = size
  sized_at done size (suc n) = size
  sized_at (then {l = l} {m = m} {e = e} a r) size (suc n) = sized_at {l = m} r ((framed l m e a).size ∙ size) n

  calm_at : (b : Bool) (es : List (Event X)) → Emptied b es → (n : ℕ) (e : Event X) → At es n e → T (emptied_at b es n || is_next e)
  unfolding emptied_at
  calm_at b [] em n e at = cc
  calm_at b (x ∷ es) em zero e at = let is : x ≡ e = cc in subst (λ (y : Event X). T (b || is_next y)) is em.0
  calm_at b (x ∷ es) em (suc n) e at = calm_at (emptied_by b x) es em.1 n e at

  turns_at : (b : Bool) (es : List (Event X)) (n : ℕ) (e : Event X) → At es n e → emptied_at b es (suc n) ≡ emptied_by (emptied_at b es n) e
  unfolding emptied_at
  turns_at b [] n e at = cc
  turns_at b (x ∷ es) zero e at = cc
  turns_at b (x ∷ es) (suc n) e at = turns_at (emptied_by b x) es n e at

  over_at : (b : Bool) (es : List (Event X)) → Emptied b es → T (emptied_at b es (length es))
  unfolding emptied_at
  over_at b [] em = em
  over_at b (x ∷ es) em = over_at (emptied_by b x) es em.1

-- every place within a list has something
pub there : {B : Type 0} (xs : List B) (n : ℕ) → n < length xs → (x : B) × (slice_get xs n ≡ Some x)
there [] n h = absurd (omega arith)
there (y ∷ xs) zero h = (y, refl)
there (y ∷ xs) (suc n) h = there xs n (omega arith)

-- a run as it is seen at slot j
pub record Course {X : Type 0} (j : ℕ) (l : Log X) (es : List (Event X)) : Type 0 where
  pub state : ℕ → Log X
  pub emptied : ℕ → Bool
  pub step : (n : ℕ) (e : Event X) → At es n e → Step (state n) e (state (suc n))
  pub change : (n : ℕ) (e : Event X) → At es n e → Change j (state n).moment (slot_of (state n) j) e (state (suc n)).moment (slot_of (state (suc n)) j)
  pub calm : (n : ℕ) (e : Event X) → At es n e → T (emptied n || is_next e)
  pub turns : (n : ℕ) (e : Event X) → At es n e → emptied (suc n) ≡ emptied_by (emptied n) e
  pub over : T (emptied (length es))
  pub moments : (n : ℕ) → (state n).moment ≡ moment_after l.moment (take n es)
  pub start : state 0 ≡ l
  pub free : slot_of (state 0) j ≡ Free
  pub size : (n : ℕ) → length (state n).slots ≡ 32
  pub fresh : emptied 0 ≡ true

-- every slot of such a table is free, and so is one past it
pub free_start : (j : ℕ) (slots : List Slot) → slots ≡ replicate 32 Free → lib.ListN.get_or slots j Free ≡ Free
free_start j slots e = ap (λ (x : List Slot). lib.ListN.get_or x j Free) e ∙ by (cases_lt j 32)
  where
    by : (j < 32) ⊎ (32 ≤ j) → lib.ListN.get_or (replicate 32 Free) j Free ≡ Free
    by (inl h) = get_or-replicate 32 j Free Free h
    by (inr h) = get_or_past (replicate 32 Free) j Free h

pub course : {X : Type 0} (j : ℕ) (l l' : Log X) (es : List (Event X)) → l.slots ≡ replicate 32 Free → Run l es l' → Emptied true es → Course j l es
unfolding state_at emptied_at
course {X} j l l' es slots r em = record {
  state = state_at r;
  emptied = emptied_at true es;
  step = step_at r;
  change = λ n e at. changed j (state_at r n) (state_at r (suc n)) (sized n) e (step_at r n e at);
  calm = calm_at true es em;
  turns = turns_at true es;
  over = over_at true es em;
  moments = moment_state r;
  start = refl;
  free = free_start j l.slots slots;
  size = sized;
  fresh = refl;
}
  where
    sized : (n : ℕ) → length (state_at r n).slots ≡ 32
    sized = sized_at r (ap (λ (x : List Slot). length x) slots)
