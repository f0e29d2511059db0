-- Every report is of a due moment that was reached, of the slot's last set-up. Assumes nothing.
use Rattle.std.proofs.Common.{◌≡◌, ℕ, zero, suc, ◌+◌, ◌-◌, ◌<◌, ◌≤◌, false, ◌⊎◌, List, length, Some, None, sym, refl, ap, ◌∙◌, subst, inl, inr, ⊎_elim, arith}
use Rattle.std.proofs.lemmas.Option.{slice_get_within}
use Rattle.std.proofs.lemmas.Bool.{cases_lt, cases_eq}
use Rattle.jobs.specs.declared.Slot.{Slot}
use Rattle.jobs.specs.declared.Slot.TheVariants.{Free, Standing}
use Rattle.jobs.specs.declared.Job.{Job}
use Rattle.jobs.specs.declared.Action.{Action}
use Rattle.jobs.specs.declared.Firing.{Firing}
use Rattle.logger.specs.State.{Log}
use Rattle.promise.specs.Runs.{Event, next}
use Rattle.promise.specs.Words.{sets, ends, DueMoment, moment_at, At, FirstEmptying, NoSetUp, NoEnd, SetUpAt, ReachedBy, ReportedAt}
use Rattle.promise.specs.Promise.{Sound}
use Rattle.promise.proofs.Firings.{Promises, promises_now, fired_from}
use Rattle.promise.proofs.Changes.{same, moves, starts, ended, fires}
use Rattle.promise.proofs.Courses.{there, Course}
use Rattle.promise.proofs.Standing.{s_at, slot_at, ChangeAt, steady, moment_before}
use Rattle.promise.proofs.Completeness.{firing_is, fired_at, Told, told, unrepeated}

-- the first number from i on at which g has come to u
pub record Reach (g : ℕ → ℕ) (u i n : ℕ) : Type 0 where
  pub place : ℕ
  pub low : i ≤ place
  pub high : place ≤ n
  pub come : u ≤ g place
  pub first : (q : ℕ) → i ≤ q → q < place → g q < u

pub reach : (g : ℕ → ℕ) (u fuel i n : ℕ) → i + fuel ≡ n → u ≤ g n → Reach g u i n
reach g u zero i n e come =
    let same_place : n ≡ i = omega arith in
    record {
      place = i;
      low = omega arith;
      high = omega arith;
      come = subst (λ k. u ≤ g k) same_place come;
      first = λ q low high. absurd (omega arith);
    }
reach g u (suc fuel) i n e come = by (cases_lt (g i) u) (reach g u fuel (suc i) n (omega arith) come)
  where
    first_at : (r : Reach g u (suc i) n) → g i < u → (q : ℕ) → i ≤ q → q < r.place → g q < u
    first_at r h q low high =
        ⊎_elim (λ (e : q ≡ i). rw e h) (λ (other : q ≡ i → ⊥). r.first q (omega arith) high) (cases_eq q i)

    by : (g i < u) ⊎ (u ≤ g i) → Reach g u (suc i) n → Reach g u i n
    by (inl h) r = record {
      place = r.place;
      low = omega (arith, r.low);
      high = r.high;
      come = r.come;
      first = first_at r h;
    }
    by (inr h) r = record {
      place = i;
      low = omega arith;
      high = omega arith;
      come = h;
      first = λ q low high. absurd (omega arith);
    }

module _ {X : Type 0} {j : ℕ} {l : Log X} {es : List (Event X)} (c : Course j l es) where
  -- where a promise comes from
  pub record Origin (n u : ℕ) (action : Action) : Type 0 where
    pub place : ℕ
    pub first : ℕ
    pub job : Job
    pub set : SetUpAt j es place job first
    pub due : DueMoment job.kind first u
    pub asked : job.action ≡ action
    pub before : place < n
    pub own : NoSetUp j es place n
    pub stood : NoEnd j es place n

  onward : (n u : ℕ) (action : Action) (e : Event X) → At es n e → sets j e ≡ None → ends j e ≡ false → Origin n u action → Origin (suc n) u action
  onward n u action e here none no_end o = record {
    place = o.place;
    first = o.first;
    job = o.job;
    set = o.set;
    due = o.due;
    asked = o.asked;
    before = omega (arith, o.before);
    own = λ k e' low high there_e. by_own k e' low high there_e (cases_eq k n);
    stood = λ k e' low high there_e. by_stood k e' low high there_e (cases_eq k n);
  }
    where
      same_event : (k : ℕ) (e' : Event X) → At es k e' → k ≡ n → e ≡ e'
      same_event k e' there_e kn = cc (sym here ∙ subst (λ m. At es m e') kn there_e)

      by_own : (k : ℕ) (e' : Event X) → o.place < k → k < suc n → At es k e' → (k ≡ n) ⊎ (k ≡ n → ⊥) → sets j e' ≡ None
      by_own k e' low high there_e (inl kn) = subst (λ (y : Event X). sets j y ≡ None) (same_event k e' there_e kn) none
      by_own k e' low high there_e (inr other) = o.own k e' low (omega arith) there_e

      by_stood : (k : ℕ) (e' : Event X) → o.place < k → k < suc n → At es k e' → (k ≡ n) ⊎ (k ≡ n → ⊥) → ends j e' ≡ false
      by_stood k e' low high there_e (inl kn) = subst (λ (y : Event X). ends j y ≡ false) (same_event k e' there_e kn) no_end
      by_stood k e' low high there_e (inr other) = o.stood k e' low (omega arith) there_e

  origin_next : (n u : ℕ) (action : Action) (e : Event X) → At es n e → (Promises (slot_at c n) action u → Origin n u action)
      → ChangeAt c n e → Promises (slot_at c (suc n)) action u → Origin (suc n) u action
  origin_next n u action e here before (same p q s slot own quiet) promised = onward n u action e here p q (before (rw slot at promised))
  origin_next n u action e here before (moves d x m grows slot) promised =
      onward n u action e here (ap (λ (y : Event X). sets j y) m) (ap (λ (y : Event X). ends j y) m) (before (rw slot at promised))
  origin_next n u action e here before (starts job first given p q s free slot kind st empty) promised =
      let promised' : Promises (Standing first job given) action u = rw slot at promised in
      record {
        place = n;
        first = first;
        job = job;
        set = (e, here, p);
        due = subst (λ k. DueMoment k first u) kind promised'.0;
        asked = promised'.1;
        before = omega arith;
        own = λ k e' low high there_e. absurd (omega arith);
        stood = λ k e' low high there_e. absurd (omega arith);
      }
  origin_next n u action e here before (ended p q s slot own) promised =
      let none : Promises Free action u = rw slot at promised in absurd none
  origin_next n u action e here before (fires f m co soon s slot) promised =
      onward n u action e here (ap (λ (y : Event X). sets j y) m) (ap (λ (y : Event X). ends j y) m)
      (before (fired_from (slot_at c n) action u (rw slot at promised)))

  pub origin : (n : ℕ) → n ≤ length es → (action : Action) (u : ℕ) → Promises (slot_at c n) action u → Origin n u action
  origin zero near action u promised =
      let none : Promises Free action u = subst (λ (y : Slot). Promises y action u) c.free promised in absurd none
  origin (suc n) near action u promised =
      let e = there es n (omega arith) in
      origin_next n u action e.0 e.1 (origin n (omega arith) action u) (c.change n e.0 e.1) promised

  -- the one report of a due moment reached lies in the first emptying after
  in_first : (i p first u q s : ℕ) (job : Job) → SetUpAt j es i job first → DueMoment job.kind first u → ReachedBy j es l.moment i u p
      → ReportedAt j es i u job.action q s → FirstEmptying es p q
  in_first i p first u q s job set due reached report = by (told c i p first u job set due reached)
    where
      by : Told c i p u job.action → FirstEmptying es p q
      by t = subst (λ k. FirstEmptying es p k) (unrepeated c i first u t.place (s_at c (suc p)) q s job set t.report report) t.first

  pub sound : Sound l.moment j es
  sound q f reports own =
      let w = fired_at c q f reports own in
      let near : q < length es = slice_get_within es q (next (Some f)) reports in
      let o = origin q (omega arith) f.action f.due (promises_now (s_at c q) j (slot_at c q) f (steady c q (omega arith)) w.comes_now) in
      from o (pred_of q o.place o.before) near w.due
    where
      pred_of : (q i : ℕ) → i < q → (n : ℕ) × (q ≡ suc n)
      pred_of zero i h = absurd (omega arith)
      pred_of (suc n) i h = (n, refl)

      from : (o : Origin q f.due f.action) → (n : ℕ) × (q ≡ suc n) → q < length es → f.due ≤ s_at c q
          → (i : ℕ) × (p : ℕ) × (first : ℕ) × (job : Job) × SetUpAt j es i job first × DueMoment job.kind first f.due
          × ReachedBy j es l.moment i f.due p × FirstEmptying es p q
          × ReportedAt j es i f.due job.action q f.at × NoEnd j es i q
      from o (n, qn) near due =
          let come : f.due ≤ moment_at es l.moment n = omega (arith, moment_before c n, ap (λ k. s_at c k) qn) in
          let r = reach (λ k. moment_at es l.moment k) f.due (n - o.place) o.place n (omega (arith, o.before)) come in
          let reached : ReachedBy j es l.moment o.place f.due r.place = record {
            from = r.low;
            within = omega (arith, r.high);
            reached = r.come;
            first = r.first;
            stood = λ k e low high there_e. o.stood k e low (omega (arith, r.high)) there_e;
          } in
          let report : ReportedAt j es o.place f.due o.job.action q f.at = record {
            after = o.before;
            answer = reports ∙ ap (λ (y : Firing). Some (next (Some y))) (firing_is f j f.due f.at o.job.action own refl refl (sym o.asked));
            own = o.own;
          } in (
            o.place,
            r.place,
            o.first,
            o.job,
            o.set,
            o.due,
            reached,
            in_first o.place r.place o.first f.due q f.at o.job o.set o.due reached report,
            report,
            o.stood,
          )
