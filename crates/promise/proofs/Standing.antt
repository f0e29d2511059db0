-- What holds all along a course: an emptied logger has nothing due, periods are at least a tick, and a promise stands until it is reached. Assumes nothing.
use Rattle.std.proofs.Common.{◌≡◌, ℕ, zero, suc, ◌<◌, ◌≤◌, Bool, true, false, ◌⊎◌, List, length, Some, None, Ok, Err, sym, refl, ap, ◌∙◌, subst, inl, inr, ⊎_elim, arith}
use Rattle.std.proofs.lemmas.Bool.{cases_eq}
use Rattle.jobs.specs.declared.Slot.{Slot}
use Rattle.jobs.specs.declared.Slot.TheVariants.{Free, Standing}
use Rattle.jobs.specs.declared.Job.{Job}
use Rattle.jobs.specs.declared.Action.{Action}
use Rattle.logger.specs.State.{Log, slot_of}
use Rattle.promise.specs.Runs.{Event, serve, set_up, errand, call_off, settle, next, hold, emptied_by}
use Rattle.promise.specs.Words.{sets, moment_at, At, NoEnd, SetUpAt, ReachedBy}
use Rattle.promise.proofs.Firings.{kind_by, Promises, SteadySlot, fired_keeps, fired_steady}
use Rattle.promise.proofs.Changes.{Change, same, moves, starts, ended, fires, Rests}
use Rattle.promise.proofs.Courses.{there, Course}

-- a logger is emptied after an event only if it was before, or by a next that answers none
still_empty : {X : Type 0} (b : Bool) (e : Event X) → emptied_by b e ≡ true → (b ≡ true) ⊎ (e ≡ next None)
still_empty b (serve d x (Ok t)) h = cc
still_empty b (serve d x (Err f)) h = inl h
still_empty b (set_up k reference delay job (Ok u)) h = cc
still_empty b (set_up k reference delay job (Err f)) h = inl h
still_empty b (errand k reference delay action (Ok u)) h = cc
still_empty b (errand k reference delay action (Err f)) h = inl h
still_empty b (call_off k r) h = inl h
still_empty b (settle ticket r) h = inl h
still_empty b (next None) h = inr refl
still_empty b (next (Some f)) h = inl h
still_empty b (hold n) h = inl h

-- what holds of one state of a slot holds of an equal one
pub rests_same : (j s s' : ℕ) (slot slot' : Slot) → s' ≡ s → slot' ≡ slot → Rests j s slot → Rests j s' slot'
rests_same j s s' slot slot' p q h = rw (p, q) h

pub rests_free : (j s : ℕ) (slot : Slot) → slot ≡ Free → Rests j s slot
rests_free j s slot e = rw e (λ f p. cc)

-- a logger that is emptied after an event has nothing due then, if that was so before
pub rests_next : {X : Type 0} (j s s' : ℕ) (slot slot' : Slot) (b : Bool) (e : Event X) → (b ≡ true → Rests j s slot) → emptied_by b e ≡ true
    → Change j s slot e s' slot' → Rests j s' slot'
rests_next j s s' slot slot' b e before after (same p q s-is slot_is own quiet) =
    rests_same j s s' slot slot' s-is slot_is (⊎_elim before quiet (still_empty b e after))
rests_next {X} j s s' slot slot' b e before after (moves d x i grows slot_is) = cc (sym after ∙ ap (λ (y : Event X). emptied_by b y) i)
rests_next j s s' slot slot' b e before after (starts job first given p q s-is free slot_is kind steady empty) = cc (sym after ∙ empty b)
rests_next j s s' slot slot' b e before after (ended p q s-is slot_is own) = rests_free j s' slot' slot_is
rests_next {X} j s s' slot slot' b e before after (fires f i co due s-is slot_is) =
    let was : b ≡ true = sym (ap (λ (y : Event X). emptied_by b y) i) ∙ after in
    absurd (omega (arith, before was f co))

module _ {X : Type 0} {j : ℕ} {l : Log X} {es : List (Event X)} (c : Course j l es) where
  abbrev pub s_at : ℕ → ℕ
  s_at n = (c.state n).moment

  abbrev pub slot_at : ℕ → Slot
  slot_at n = slot_of (c.state n) j

  abbrev pub ChangeAt : ℕ → Event X → Type 0
  ChangeAt n e = Change {X = X} j (s_at n) (slot_at n) e (s_at (suc n)) (slot_at (suc n))

  -- an emptied logger has nothing due
  pub rests : (n : ℕ) → n ≤ length es → c.emptied n ≡ true → Rests j (s_at n) (slot_at n)
  rests zero h b = rests_free j (s_at 0) (slot_at 0) c.free
  rests (suc n) h b =
      let e = there es n (omega arith) in
      rests_next j (s_at n) (s_at (suc n)) (slot_at n) (slot_at (suc n)) (c.emptied n) e.0 (rests n (omega arith)) (sym (c.turns n e.0 e.1) ∙ b)
      (c.change n e.0 e.1)

  steady_next : (n : ℕ) (e : Event X) → SteadySlot (slot_at n) → ChangeAt n e → SteadySlot (slot_at (suc n))
  steady_next n e before (same p q s slot own quiet) = rw slot before
  steady_next n e before (moves d x i grows slot) = rw slot before
  steady_next n e before (starts job first given p q s free slot kind steady empty) = rw slot steady
  steady_next n e before (ended p q s slot own) = rw slot tt
  steady_next n e before (fires f i co due s slot) = rw slot (fired_steady (slot_at n) before)

  -- every standing job has a period of at least a tick, and a burst a firing to come
  pub steady : (n : ℕ) → n ≤ length es → SteadySlot (slot_at n)
  steady zero h = rw c.free tt
  steady (suc n) h =
      let e = there es n (omega arith) in
      steady_next n e.0 (steady n (omega arith)) (c.change n e.0 e.1)

  pub record Stood (i first : ℕ) (job : Job) : Type 0 where
    pub given : Bool
    pub slot : slot_at (suc i) ≡ Standing first job given
    pub kind : kind_by given job.kind ≡ job.kind
    pub empty : c.emptied (suc i) ≡ false

  -- what a set-up leaves
  pub stood : (i first : ℕ) (job : Job) → SetUpAt j es i job first → Stood i first job
  stood i first job (e, at, sets_it) = by (c.change i e at)
    where
      by : ChangeAt i e → Stood i first job
      by (same p q s slot own quiet) = cc (sym p ∙ sets_it)
      by (moves d x m grows slot) = cc (sym (ap (λ (y : Event X). sets j y) m) ∙ sets_it)
      by (starts job' first' given p q s free slot kind steady empty) =
          let both : ◌≡◌ {A = Job × ℕ} (job', first') (job, first) = cc (sym p ∙ sets_it) in
          let job_is : job' ≡ job = ap (λ (y : Job × ℕ). y.0) both in
          let first_is : first' ≡ first = ap (λ (y : Job × ℕ). y.1) both in
          record {
            given = given;
            slot = slot ∙ ap (λ n. Standing n job' given) first_is ∙ ap (λ (y : Job). Standing first y given) job_is;
            kind = subst (λ (y : Job). kind_by given y.kind ≡ y.kind) job_is kind;
            empty = c.turns i e at ∙ empty (c.emptied i);
          }
      by (ended p q s slot own) = cc (sym p ∙ sets_it)
      by (fires f m co due s slot) = cc (sym (ap (λ (y : Event X). sets j y) m) ∙ sets_it)

  -- up to the event that reaches it, a promise stands
  module _ (i p u : ℕ) (action : Action) (base : Promises (slot_at (suc i)) action u)
      (early : (n : ℕ) → i < n → n ≤ p → s_at n < u) (no_end : NoEnd j es i p) (within : p < length es) where
    stands_next : (n : ℕ) (e : Event X) → At es n e → i < n → n < p → Promises (slot_at n) action u
        → ChangeAt n e → Promises (slot_at (suc n)) action u
    stands_next n e at low high before (same p q s slot own quiet) = rw slot before
    stands_next n e at low high before (moves d x m grows slot) = rw slot before
    stands_next n e at low high before (starts job first given p q s free slot kind steady empty) =
        let none : Promises Free action u = subst (λ (y : Slot). Promises y action u) free before in absurd none
    stands_next n e at low high before (ended p q s slot own) = cc (sym q ∙ no_end n e low high at)
    stands_next n e at low high before (fires f m co due s slot) =
        rw slot (fired_keeps (s_at n) j (slot_at n) action u f before co (λ same. omega (arith, early n low (omega arith))))

    pub stands : (n : ℕ) → i < n → n ≤ p → Promises (slot_at n) action u
    stands zero low high = absurd (omega arith)
    stands (suc n) low high = by (cases_eq n i) (λ h. stands n h (omega arith))
      where
        by : (n ≡ i) ⊎ (n ≡ i → ⊥) → (i < n → Promises (slot_at n) action u) → Promises (slot_at (suc n)) action u
        by (inl e) before = subst (λ k. Promises (slot_at (suc k)) action u) (sym e) base
        by (inr other) before =
            let low' : i < n = omega arith in
            let e = there es n (omega arith) in
            stands_next n e.0 e.1 low' (omega arith) (before low') (c.change n e.0 e.1)

    -- so that no other set-up is accepted
    pub kept_slot : (n : ℕ) (e : Event X) → i < n → n ≤ p → At es n e → sets j e ≡ None
    kept_slot n e low high at = by (c.change n e at)
      where
        by : ChangeAt n e → sets j e ≡ None
        by (same p q s slot own quiet) = p
        by (moves d x m grows slot) = ap (λ (y : Event X). sets j y) m
        by (starts job first given p q s free slot kind steady empty) =
            let none : Promises Free action u = subst (λ (y : Slot). Promises y action u) free (stands n low high) in absurd none
        by (ended p q s slot own) = p
        by (fires f m co due s slot) = ap (λ (y : Event X). sets j y) m

  -- the moment before the event at n, as the one after the event before
  pub moment_before : (n : ℕ) → s_at (suc n) ≡ moment_at es l.moment n
  moment_before n = c.moments (suc n)

  pub not_reached : (i u p : ℕ) → ReachedBy j es l.moment i u p → (n : ℕ) → i < n → n ≤ p → s_at n < u
  not_reached i u p r zero low high = absurd (omega arith)
  not_reached i u p r (suc n) low high = omega (arith, r.first n (omega arith) (omega arith), moment_before n)
