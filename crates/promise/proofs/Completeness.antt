-- Every due moment reached is reported in the first emptying after, and once only. Assumes nothing.
use Rattle.std.proofs.Common.{◌≡◌, ℕ, zero, suc, ◌+◌, ◌<◌, ◌≤◌, Bool, true, false, ◌||◌, T, ◌⊎◌, List, length, Some, None, Ok, Option, sym, refl, ap, ◌∙◌, subst, inl, inr, arith}
use Rattle.std.proofs.lemmas.Option.{slice_get_within}
use Rattle.std.proofs.lemmas.Bool.{cases_lt, cases_eq, cases_order}
use Rattle.jobs.specs.declared.Job.{Job}
use Rattle.jobs.specs.declared.Action.{Action}
use Rattle.jobs.specs.declared.Firing.{Firing}
use Rattle.logger.specs.State.{Log}
use Rattle.slots.specs.Slots.{coming, fired}
use Rattle.table.proofs.Soonest.{coming_at, coming_slot}
use Rattle.promise.specs.Runs.{Event, serve, set_up, errand, call_off, settle, next, hold, is_next, emptied_by}
use Rattle.promise.specs.Words.{sets, DueMoment, At, FirstEmptying, NoSetUp, SetUpAt, ReachedBy, ReportedAt}
use Rattle.promise.specs.Promise.{Complete, Unrepeated}
use Rattle.promise.proofs.Firings.{Promises, SteadySlot, comes, fired_keeps, fired_later}
use Rattle.promise.proofs.Changes.{same, moves, starts, ended, fires, no_next}
use Rattle.promise.proofs.Courses.{there, Course}
use Rattle.promise.proofs.Standing.{s_at, slot_at, ChangeAt, steady, stood, stands, kept_slot, moment_before, not_reached}

next_form : {X : Type 0} (e : Event X) → is_next e ≡ true → (r : Option Firing) × (e ≡ next r)
next_form (serve d x r) h = cc
next_form (set_up k reference delay job r) h = cc
next_form (errand k reference delay action r) h = cc
next_form (call_off k r) h = cc
next_form (settle ticket r) h = cc
next_form (next r) h = (r, refl)
next_form (hold n) h = cc

-- a call of a logger that is not emptied is a next
only_next : (b a : Bool) → T (b || a) → b ≡ false → a ≡ true
only_next true a t e = cc
only_next false true t e = refl
only_next false false t e = absurd t

not_both : (b : Bool) → T b → b ≡ false → ⊥
not_both true t e = cc
not_both false t e = t

pub firing_is : (f : Firing) (j u s : ℕ) (action : Action) → f.slot ≡ j → f.due ≡ u → f.at ≡ s → f.action ≡ action
    → f ≡ record { slot = j; due = u; at = s; action = action }
firing_is f j u s action p q r t = λ i. record { slot = p i; due = q i; at = r i; action = t i }

module _ {X : Type 0} {j : ℕ} {l : Log X} {es : List (Event X)} (c : Course j l es) where
  -- a next of the slot is a firing of the slot
  pub record Fired (q : ℕ) (f : Firing) : Type 0 where
    pub comes_now : coming (s_at c q) j (slot_at c q) ≡ Some f
    pub due : f.due ≤ s_at c q
    pub slot : slot_at c (suc q) ≡ fired (slot_at c q)

  pub fired_at : (q : ℕ) (f : Firing) → At es q (next (Some f)) → f.slot ≡ j → Fired q f
  fired_at q f at own = by (c.change q (next (Some f)) at)
    where
      by : ChangeAt c q (next (Some f)) → Fired q f
      by (same p r s slot other quiet) = absurd (other f refl own)
      by (moves d x i grows slot) = no_next {e = serve d x (Ok (s_at c (suc q)))} refl (sym i)
      by (starts job first given p r s free slot kind st empty) = cc
      by (ended p r s slot other) = absurd (other f refl)
      by (fires g i co due s slot) =
          let fg : g ≡ f = cc in
          record {
            comes_now = co ∙ ap (λ (y : Firing). Some y) fg;
            due = subst (λ (y : Firing). y.due ≤ s_at c q) fg due;
            slot = slot;
          }

  -- the report of due moment u, at moment s, in the emptying that begins at n
  pub record Coming (n u s : ℕ) (action : Action) : Type 0 where
    pub place : ℕ
    pub low : n ≤ place
    pub answer : At es place (next (Some (record { slot = j; due = u; at = s; action = action })))
    pub between : (k : ℕ) → n ≤ k → k < place → (f : Firing) × At es k (next (Some f))

  module _ (u s : ℕ) (action : Action) where
    here : (n : ℕ) (f : Firing) → At es n (next (Some f)) → coming (s_at c n) j (slot_at c n) ≡ Some f → Promises (slot_at c n) action u → f.due ≡ u → s_at c n ≡ s
        → Coming n u s action
    here n f at co promised is-u is-s =
        let g = comes (s_at c n) j (slot_at c n) action u promised in
        let fg : g.0 ≡ f = cc (sym g.1 ∙ co) in
        let act : f.action ≡ action = subst (λ (y : Firing). y.action ≡ action) fg g.3 in
        record {
          place = n;
          low = omega arith;
          answer =
              at ∙ ap (λ (y : Firing). Some (next (Some y)))
              (firing_is f j u s action (coming_slot (s_at c n) j (slot_at c n) f co) is-u (coming_at (s_at c n) j (slot_at c n) f co ∙ is-s) act);
          between = λ k low high. absurd (omega arith);
        }

    later : (n : ℕ) (f : Firing) → At es n (next (Some f)) → Coming (suc n) u s action → Coming n u s action
    later n f at found = record {
      place = found.place;
      low = omega (arith, found.low);
      answer = found.answer;
      between = λ k low high. by k high (cases_eq k n) low;
    }
      where
        by : (k : ℕ) → k < found.place → (k ≡ n) ⊎ (k ≡ n → ⊥) → n ≤ k → (f : Firing) × At es k (next (Some f))
        by k high (inl e) low = (f, subst (λ m. At es m (next (Some f))) (sym e) at)
        by k high (inr other) low = found.between k (omega arith) high

    abbrev On : ℕ → Type 0
    On n = c.emptied n ≡ false → Promises (slot_at c n) action u → u ≤ s → s_at c n ≡ s → Coming n u s action

    -- while the logger is not emptied and u is due, next answers, until it answers u
    pub emptying : (fuel n : ℕ) → length es ≤ n + fuel → n ≤ length es → c.emptied n ≡ false → Promises (slot_at c n) action u → u ≤ s → s_at c n ≡ s
        → Coming n u s action
    emptying zero n far near b promised due is-s =
        let end : length es ≡ n = omega arith in
        absurd (not_both (c.emptied n) (subst (λ k. T (c.emptied k)) end c.over) b)
    emptying (suc fuel) n far near b promised due is-s = at_end (cases_lt n (length es)) (λ h. emptying fuel (suc n) (omega arith) h)
      where
        answered : (f : Firing) → At es n (next (Some f)) → On (suc n) → ChangeAt c n (next (Some f)) → Coming n u s action
        answered f at on (same p q t slot own quiet) =
            later n f at (on (c.turns n (next (Some f)) at ∙ b) (rw slot promised) due (t ∙ is-s))
        answered f at on (moves d x i grows slot) = no_next {e = serve d x (Ok (s_at c (suc n)))} refl (sym i)
        answered f at on (starts job first given p q t free slot kind st empty) = cc
        answered f at on (ended p q t slot own) = absurd (own f refl)
        answered f at on (fires g i co soon t slot) = by (cases_eq g.due u)
          where
            by : (g.due ≡ u) ⊎ (g.due ≡ u → ⊥) → Coming n u s action
            by (inl e) = here n g (at ∙ ap (λ (y : Event X). Some y) i) co promised e is-s
            by (inr other) =
                later n f at
                (on (c.turns n (next (Some f)) at ∙ b) (rw slot (fired_keeps (s_at c n) j (slot_at c n) action u g promised co other)) due (t ∙ is-s))

        none : At es n (next None) → ChangeAt c n (next None) → Coming n u s action
        none at (same p q t slot own quiet) =
            let g = comes (s_at c n) j (slot_at c n) action u promised in
            absurd (omega (arith, quiet refl g.0 g.1, g.2))
        none at (moves d x i grows slot) = no_next {e = serve d x (Ok (s_at c (suc n)))} refl (sym i)
        none at (starts job first given p q t free slot kind st empty) = cc
        none at (ended p q t slot own) = cc
        none at (fires g i co soon t slot) = cc

        by_answer : (r : Option Firing) → At es n (next r) → On (suc n) → Coming n u s action
        by_answer None at on = none at (c.change n (next None) at)
        by_answer (Some f) at on = answered f at on (c.change n (next (Some f)) at)

        at_end : (n < length es) ⊎ (length es ≤ n) → (suc n ≤ length es → On (suc n)) → Coming n u s action
        at_end (inl h) on =
            let e = there es n h in
            let form = next_form e.0 (only_next (c.emptied n) (is_next e.0) (c.calm n e.0 e.1) b) in
            by_answer form.0 (e.1 ∙ ap (λ (y : Event X). Some y) form.1) (on h)
        at_end (inr h) on =
            let end : length es ≡ n = omega arith in
            absurd (not_both (c.emptied n) (subst (λ k. T (c.emptied k)) end c.over) b)

  -- a due moment reached is reported at the moment after the event that reached it
  pub record Told (i p u : ℕ) (action : Action) : Type 0 where
    pub place : ℕ
    pub report : ReportedAt j es i u action place (s_at c (suc p))
    pub first : FirstEmptying es p place

  module _ (i p first u : ℕ) (job : Job) (set : SetUpAt j es i job first) (due : DueMoment job.kind first u) (reached : ReachedBy j es l.moment i u p) where
    pub base : Promises (slot_at c (suc i)) job.action u
    base =
        let w = stood c i first job set in
        rw w.slot (subst (λ k. DueMoment k first u) (sym w.kind) due, refl)

    come : u ≤ s_at c (suc p)
    come = omega (arith, reached.reached, moment_before c p)

    no_set_up : (q : ℕ) → ((k : ℕ) → p < k → k < q → (f : Firing) × At es k (next (Some f))) → NoSetUp j es i q
    no_set_up q between k e low high at = by (cases_lt p k)
      where
        by : (p < k) ⊎ (k ≤ p) → sets j e ≡ None
        by (inl h) =
            let f = between k h high in
            let same_e : e ≡ next (Some f.0) = cc (sym at ∙ f.1) in
            ap (λ (y : Event X). sets j y) same_e
        by (inr h) = kept_slot c i p u job.action base (not_reached c i u p reached) reached.stood reached.within k e low h at

    told_from : c.emptied (suc p) ≡ false → Promises (slot_at c (suc p)) job.action u → Told i p u job.action
    told_from empty promised =
        let found = emptying u (s_at c (suc p)) job.action (length es) (suc p) (omega arith) reached.within empty promised come refl in
        record {
          place = found.place;
          report = record {
            after = omega (arith, found.low, reached.from);
            answer = found.answer;
            own = no_set_up found.place (λ k low high. found.between k low high);
          };
          first = (found.low, λ k low high. found.between k low high);
        }

    pub told : Told i p u job.action
    told = by (cases_eq p i)
      where
        moved_on : i < p → (e : Event X) → At es p e → ChangeAt c p e → Told i p u job.action
        moved_on low e at (same a b t slot own quiet) = absurd (omega (arith, come, not_reached c i u p reached p low (omega arith)))
        moved_on low e at (moves d x m grows slot) =
            told_from (c.turns p e at ∙ ap (λ (y : Event X). emptied_by (c.emptied p) y) m)
            (rw slot (stands c i p u job.action base (not_reached c i u p reached) reached.stood reached.within p low (omega arith)))
        moved_on low e at (starts job first given a b t free slot kind st empty) = absurd (omega (arith, come, not_reached c i u p reached p low (omega arith)))
        moved_on low e at (ended a b t slot own) = absurd (omega (arith, come, not_reached c i u p reached p low (omega arith)))
        moved_on low e at (fires f m co soon t slot) = absurd (omega (arith, come, not_reached c i u p reached p low (omega arith)))

        by : (p ≡ i) ⊎ (p ≡ i → ⊥) → Told i p u job.action
        by (inl e) =
            told_from (subst (λ k. c.emptied (suc k) ≡ false) (sym e) (stood c i first job set).empty)
            (subst (λ k. Promises (slot_at c (suc k)) job.action u) (sym e) base)
        by (inr other) =
            let low : i < p = omega (arith, reached.from) in
            let e = there es p reached.within in
            moved_on low e.0 e.1 (c.change p e.0 e.1)

  pub complete : Complete l.moment j es
  complete i p first u job set due reached =
      let t = told i p first u job set due reached in (t.place, s_at c (suc p), t.report, t.first)

  -- ---- once only
  -- after a report, what the slot has to come is later, until it is set up anew
  module _ (q : ℕ) (f : Firing) (reports : At es q (next (Some f))) (own : f.slot ≡ j) where
    abbrev Later : ℕ → Type 0
    Later n = (s : ℕ) (g : Firing) → coming s j (slot_at c n) ≡ Some g → f.due < g.due

    later_same : (n m : ℕ) → slot_at c m ≡ slot_at c n → Later n → Later m
    later_same n m e before s g co = before s g (rw e at co)

    later_first : Later (suc q)
    later_first s g co =
        let w = fired_at q f reports own in
        let st : SteadySlot (slot_at c q) = steady c q (omega (arith, slice_get_within es q (next (Some f)) reports)) in
        fired_later (s_at c q) s j (slot_at c q) f g st w.comes_now (rw w.slot at co)

    later_next : (n : ℕ) (e : Event X) → n ≤ length es → sets j e ≡ None → Later n → ChangeAt c n e → Later (suc n)
    later_next n e near none before (same a b t slot other quiet) = later_same n (suc n) slot before
    later_next n e near none before (moves d x m grows slot) = later_same n (suc n) slot before
    later_next n e near none before (starts job first given a b t free slot kind st empty) = cc (sym a ∙ none)
    later_next n e near none before (ended a b t slot other) = λ s g co. cc (rw slot at co)
    later_next n e near none before (fires h m co soon t slot) = λ s g co'.
        omega (arith, before (s_at c n) h co, fired_later (s_at c n) s j (slot_at c n) h g (steady c n near) co (rw slot at co'))

    always_later : (q' : ℕ) → q' ≤ length es → NoSetUp j es q q' → (n : ℕ) → q < n → n ≤ q' → Later n
    always_later q' near none zero low high = absurd (omega arith)
    always_later q' near none (suc n) low high = by (cases_eq n q) (λ h. always_later q' near none n h (omega arith))
      where
        by : (n ≡ q) ⊎ (n ≡ q → ⊥) → (q < n → Later n) → Later (suc n)
        by (inl e) before = subst (λ k. Later (suc k)) (sym e) later_first
        by (inr other) before =
            let low' : q < n = omega arith in
            let e = there es n (omega arith) in
            later_next n e.0 (omega arith) (none n e.0 low' (omega arith) e.1) (before low') (c.change n e.0 e.1)

    pub no_second : (q' : ℕ) (g : Firing) → At es q' (next (Some g)) → g.slot ≡ j → q < q' → NoSetUp j es q q' → f.due ≡ g.due → ⊥
    no_second q' g at' own' low none e =
        let w = fired_at q' g at' own' in
        omega (arith, always_later q' (omega (arith, slice_get_within es q' (next (Some g)) at')) none q' low (omega arith) (s_at c q') g w.comes_now)

  pub unrepeated : Unrepeated l.moment j es
  unrepeated i first u q s q' s' job set r r' = by (cases_order q q')
    where
      by : (q ≡ q') ⊎ ((q < q') ⊎ (q' < q)) → q ≡ q'
      by (inl e) = e
      by (inr (inl h)) = absurd (no_second q _ r.answer refl q' _ r'.answer refl h (λ k e low high at. r'.own k e (omega (arith, r.after)) high at) refl)
      by (inr (inr h)) = absurd (no_second q' _ r'.answer refl q _ r.answer refl h (λ k e low high at. r.own k e (omega (arith, r'.after)) high at) refl)
