-- A serve no later than hold asked passes no due moment by. Assumes nothing.
use Rattle.std.proofs.Common.{◌≡◌, ℕ, zero, suc, ◌+◌, ◌-◌, ◌<◌, ◌≤◌, Bool, true, false, cond, ◌||◌, T, eqb, ◌⊎◌, List, length, get_or, Some, None, Ok, Option, sym, refl, ap, ◌∙◌, subst, inl, inr, arith}
use Rattle.std.proofs.lemmas.Option.{slice_get_within}
use Rattle.std.proofs.lemmas.Bool.{cases_lt, cases_eq}
use Rattle.clock.specs.Meaning.{Meaning, Counts}
use Rattle.clock.specs.Hold.{wait_for, Waits}
use Rattle.clock.proofs.Waiting.{waits}
use Rattle.jobs.specs.declared.Slot.{Slot}
use Rattle.jobs.specs.declared.Slot.TheVariants.{Free, Standing, Waiting}
use Rattle.jobs.specs.declared.Firing.{Firing}
use Rattle.logger.specs.State.{Log, slot_of}
use Rattle.slots.specs.Slots.{coming, distance}
use Rattle.table.specs.Table.{nearest}
use Rattle.logger.specs.Calls.{held_for, Held, Accepted}
use Rattle.table.proofs.Nearest.{Answer, answered}
use Rattle.promise.specs.Runs.{Event, serve, next, hold}
use Rattle.promise.specs.Words.{At, AsHeld, SetUpAt, ReportedAt}
use Rattle.promise.specs.Promise.{Timely}
use Rattle.promise.proofs.Firings.{comes}
use Rattle.promise.proofs.Changes.{same, moves, starts, ended, fires, Rests}
use Rattle.promise.proofs.Frames.{framed}
use Rattle.promise.proofs.Courses.{Course}
use Rattle.promise.proofs.Standing.{s_at, slot_at, ChangeAt, rests, stands, not_reached, moment_before}
use Rattle.promise.proofs.Completeness.{base, told}
use Rattle.promise.proofs.Measuring.{counts}

-- the nearest distance is at most that of each standing slot
pub record Near (s : ℕ) (slots : List Slot) (due : ℕ) : Type 0 where
  pub left : ℕ
  pub is : nearest s slots ≡ Some left
  pub low : left ≤ due - s

distance_of : (s m : ℕ) (slot : Slot) (f : Firing) → coming s m slot ≡ Some f → distance s slot ≡ Some (f.due - s)
distance_of s m Free f co = cc
distance_of s m (Standing due job b) f co = cc
distance_of s m (Waiting due) f co = cc

pub near : (s : ℕ) (slots : List Slot) (j : ℕ) (f : Firing) → coming s j (get_or slots j Free) ≡ Some f → Near s slots f.due
near s slots j f co = by (nearest s slots) refl (answered s slots)
  where
    by : (o : Option ℕ) → nearest s slots ≡ o → Answer s slots o → Near s slots f.due
    by None e a = cc (sym (a j) ∙ distance_of s j (get_or slots j Free) f co)
    by (Some left) e a = record { left = left; is = e; low = a.least j (f.due - s) (distance_of s j (get_or slots j Free) f co) }

-- where the measure stays below up to n, it has come no further than there at n
low_to : (g : ℕ → ℕ) → Counts g → (left n : ℕ) → ((d : ℕ) → d < n → g d < left) → (d : ℕ) → d ≤ n → g d ≤ left
low_to g k left zero first d h = let z : d ≡ 0 = omega arith in omega (arith, ap g z, k.nought)
low_to g k left (suc e) first d h = by (cases_lt d (suc e))
  where
    by : (d < suc e) ⊎ (suc e ≤ d) → g d ≤ left
    by (inl low) = omega (arith, first d low)
    by (inr high) = let z : d ≡ e + 1 = omega arith in omega (arith, ap g z, k.slow e, first e (omega arith))

-- within what hold asked, the stack gains no more than what is left
pub held_low : {X : Type 0} (m : Meaning X) → Counts m.measure → (left d : ℕ) → d ≤ held_for m (Some left) → d < m.reach → m.measure d ≤ left
held_low {X} m k left d = by (eqb left 0)
  where
    waited : d ≤ wait_for m left → d < m.reach → Waits m left (wait_for m left) → m.measure d ≤ left
    waited h reach (inl w) = low_to m.measure k left (wait_for m left) w.first d h
    waited h reach (inr w) = omega (arith, w.0 d reach)

    by : (b : Bool) → d ≤ cond b 0 (wait_for m left) → d < m.reach → m.measure d ≤ left
    by true h reach = let z : d ≡ 0 = omega arith in omega (arith, ap m.measure z, k.nought)
    by false h reach = waited h reach (waits m left)

truly : (b : Bool) → T (b || false) → b ≡ true
truly true t = refl
truly false t = absurd t

module _ {X : Type 0} {j : ℕ} {l : Log X} {es : List (Event X)} (c : Course j l es) (law : Counts l.stack.measure) where
  -- nothing of the slot, the moment or the stack has changed since the event at h
  pub record Unchanged (h n : ℕ) : Type 0 where
    pub stack : (c.state n).stack ≡ (c.state h).stack
    pub moment : s_at c n ≡ s_at c h
    pub slot : slot_at c n ≡ slot_at c h
    pub empty : c.emptied n ≡ true

  after_hold : (h n : ℕ) → At es h (hold n) → Unchanged h (suc h)
  after_hold h n here =
      let a : Held (c.state h) n (c.state (suc h)) = c.step h (hold n) here in
      record {
        stack = ap (λ (y : Log X). y.stack) a.after;
        moment = ap (λ (y : Log X). y.moment) a.after;
        slot = ap (λ (y : Log X). slot_of y j) a.after;
        empty = c.turns h (hold n) here ∙ truly (c.emptied h) (c.calm h (hold n) here);
      }

  emptied_on : (n : ℕ) (r : Option Firing) → At es n (next r) → c.emptied n ≡ true → c.emptied (suc n) ≡ true
  emptied_on n None here b = c.turns n (next None) here
  emptied_on n (Some f) here b = c.turns n (next (Some f)) here ∙ b

  after_next : (h n : ℕ) (r : Option Firing) → At es n (next r) → Unchanged h n → Unchanged h (suc n)
  after_next h n r here u =
      let f = framed (c.state n) (c.state (suc n)) (next r) (c.step n (next r) here) in
      let near_end : n < length es = slice_get_within es n (next r) here in
      record {
        stack = f.stack ∙ u.stack;
        moment = f.moment ∙ u.moment;
        slot = kept (rests c n (omega arith) u.empty) (c.change n (next r) here) ∙ u.slot;
        empty = emptied_on n r here u.empty;
      }
    where
      kept : Rests j (s_at c n) (slot_at c n) → ChangeAt c n (next r) → slot_at c (suc n) ≡ slot_at c n
      kept quiet (same p q t slot own rest) = slot
      kept quiet (moves d x i grows slot) = slot
      kept quiet (starts job first given p q t free slot kind st empty) = cc
      kept quiet (ended p q t slot own) = cc
      kept quiet (fires g i co soon t slot) = absurd (omega (arith, quiet g co))

  unchanged : (h p n : ℕ) → At es h (hold n) → ((k : ℕ) → h < k → k < p → (r : Option Firing) × At es k (next r)) → (m : ℕ) → h < m → m ≤ p → Unchanged h m
  unchanged h p n here between zero low high = absurd (omega arith)
  unchanged h p n here between (suc m) low high = by (cases_eq m h) (λ low'. unchanged h p n here between m low' (omega arith))
    where
      by : (m ≡ h) ⊎ (m ≡ h → ⊥) → (h < m → Unchanged h m) → Unchanged h (suc m)
      by (inl e) before = subst (λ k. Unchanged h (suc k)) (sym e) (after_hold h n here)
      by (inr other) before =
          let low' : h < m = omega arith in
          let r = between m low' (omega arith) in
          after_next h m r.0 r.1 (before low')

  -- a serve no later than hold asked does not pass what the slot has to come
  not_passed : (p d t : ℕ) (sample : X) → At es p (serve d sample (Ok t)) → AsHeld es p d → (g : Firing) → coming (s_at c p) j (slot_at c p) ≡ Some g
      → s_at c p < g.due → s_at c (suc p) ≤ g.due
  not_passed p d t sample here held g co ahead =
      let h = held.place in
      let near_end : p < length es = slice_get_within es p (serve d sample (Ok t)) here in
      let u = unchanged h p held.answer held.held held.between p held.before (omega arith) in
      let co' : coming (s_at c h) j (slot_at c h) ≡ Some g = subst (λ k. coming k j (slot_at c h) ≡ Some g) u.moment (subst (λ (y : Slot). coming (s_at c p) j y ≡ Some g) u.slot co) in
      let n = near (s_at c h) (c.state h).slots j g co' in
      let a : Held (c.state h) held.answer (c.state (suc h)) = c.step h (hold held.answer) held.held in
      let asked : held.answer ≡ held_for (c.state h).stack (Some n.left) = a.answer ∙ ap (λ (o : Option ℕ). held_for (c.state h).stack o) n.is in
      let b : Accepted (c.state p) d sample t (c.state (suc p)) = c.step p (serve d sample (Ok t)) here in
      let f = framed (c.state p) (c.state (suc p)) (serve d sample (Ok t)) b in
      let low : (c.state h).stack.measure d ≤ n.left =
      held_low (c.state h).stack (counts c law h (omega (arith, held.before))) n.left d (omega (arith, held.enough, asked))
      (subst (λ (y : Meaning X). d < y.reach) u.stack b.within) in
      let gain : (c.state p).stack.measure d ≡ (c.state h).stack.measure d = ap (λ (y : Meaning X). y.measure d) u.stack in
      omega (arith, f.gain, n.low, u.moment)

  pub timely : Timely l.moment j es
  timely i p first u d t sample job set due reached here held =
      let after : i < p = later set (cases_eq i p) in
      let promised = stands c i p u job.action (base c i p first u job set due reached) (not_reached c i u p reached) reached.stood reached.within p after (omega arith) in
      let g = comes (s_at c p) j (slot_at c p) job.action u promised in
      let near_end : p < length es = reached.within in
      let empty : c.emptied p ≡ true = truly (c.emptied p) (c.calm p (serve d sample (Ok t)) here) in
      let ahead : s_at c p < g.0.due = rests c p (omega arith) empty g.0 g.1 in
      let passed : s_at c (suc p) ≤ g.0.due = not_passed p d t sample here held g.0 g.1 ahead in
      let now_u : s_at c (suc p) ≡ u = omega (arith, g.2, reached.reached, moment_before c p) in
      let told_so = told c i p first u job set due reached in
      (told_so.place, subst (λ k. ReportedAt j es i u job.action told_so.place k) now_u told_so.report, told_so.first)
    where
      later : SetUpAt j es i job first → (i ≡ p) ⊎ (i ≡ p → ⊥) → i < p
      later (e, at_i, sets_it) (inl ip) =
          let same_event : serve d sample (Ok t) ≡ e = cc (sym here ∙ subst (λ k. At es k e) ip at_i) in
          cc (ap (λ (y : Event X). Rattle.promise.specs.Words.sets j y) same_event ∙ sets_it)
      later (e, at_i, sets_it) (inr other) = omega (arith, reached.from)
