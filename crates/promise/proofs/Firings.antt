-- What one slot has still to report: the due moments that it promises, and what a firing leaves of them. Assumes nothing.
use Rattle.std.proofs.Common.{◌≡◌, ℕ, zero, suc, ◌+◌, ◌-◌, ◌*◌, ◌<◌, ◌≤◌, Bool, true, false, cond, ltb, Some, None, sym, refl, ap, ◌∙◌, subst, arith}
use Rattle.std.proofs.lemmas.Bool.{lt-ltb}
use Rattle.std.proofs.lemmas.Grind.{common_steps}
use Rattle.jobs.specs.declared.Slot.{Slot}
use Rattle.jobs.specs.declared.Slot.TheVariants.{Free, Standing, Waiting}
use Rattle.jobs.specs.declared.Kind.{Kind}
use Rattle.jobs.specs.declared.Kind.TheVariants.{Once, Every, Burst}
use Rattle.jobs.specs.declared.Action.{Action}
use Rattle.jobs.specs.declared.Firing.{Firing}
use Rattle.slots.specs.Slots.{coming, fired, stand_on, again}
use Rattle.promise.specs.Words.{DueMoment}

-- an errand fires once
abbrev pub kind_by : Bool → Kind → Kind
kind_by true kind = Once
kind_by false kind = kind

-- u is a due moment that the slot has still to report, with this action
abbrev pub Promises : Slot → Action → ℕ → Type 0
Promises Free action u = ⊥
Promises (Standing due job errand) action u = DueMoment (kind_by errand job.kind) due u × (job.action ≡ action)
Promises (Waiting due) action u = ⊥

-- a period of at least a tick, and a burst with a firing to come
abbrev pub Steady : Kind → Type 0
Steady Once = Unit {0}
Steady (Every period) = 1 ≤ period
Steady (Burst count period) = (1 ≤ count) × (1 ≤ period)

abbrev pub SteadySlot : Slot → Type 0
SteadySlot Free = Unit {0}
SteadySlot (Standing due job errand) = Steady job.kind
SteadySlot (Waiting due) = Unit {0}

-- the first due moment to come is promised, and it is the least
now_due : (kind : Kind) (due : ℕ) → Steady kind → DueMoment kind due due
now_due Once due s = refl
now_due (Every period) due s = (0, omega arith)
now_due (Burst count period) due s = (0, s.0, omega arith)

never_before : (kind : Kind) (due u : ℕ) → DueMoment kind due u → due ≤ u
never_before Once due u p = omega arith
never_before (Every period) due u (k, e) = omega arith
never_before (Burst count period) due u (k, h, e) = omega arith

steady_by : (errand : Bool) (kind : Kind) → Steady kind → Steady (kind_by errand kind)
steady_by true kind s = tt
steady_by false kind s = s

module _ (s j : ℕ) where
  pub promises_now : (slot : Slot) (f : Firing) → SteadySlot slot → coming s j slot ≡ Some f → Promises slot f.action f.due
  promises_now Free f steady e = cc
  promises_now (Standing due job errand) f steady e =
      let same : record { slot = j; due = due; at = s; action = job.action } ≡ f = cc in
      subst (λ (x : Firing). DueMoment (kind_by errand job.kind) due x.due × (job.action ≡ x.action)) same
      (now_due (kind_by errand job.kind) due (steady_by errand job.kind steady), refl)
  promises_now (Waiting due) f steady e = cc

  -- a slot with a promise has a firing to come, no later
  pub comes : (slot : Slot) (action : Action) (u : ℕ) → Promises slot action u
      → (f : Firing) × (coming s j slot ≡ Some f) × (f.due ≤ u) × (f.action ≡ action)
  comes Free action u p = absurd p
  comes (Standing due job errand) action u p =
      (record { slot = j; due = due; at = s; action = job.action }, refl, never_before (kind_by errand job.kind) due u p.0, p.1)
  comes (Waiting due) action u p = absurd p

  -- a firing takes its own due moment out, and no other
  again_keeps : (kind : Kind) (due : ℕ) (action action' : Action) (u : ℕ) → DueMoment kind due u → action ≡ action' → (due ≡ u → ⊥)
      → Promises (again due action kind) action' u
  again_keeps Once due action action' u p a other = absurd (other (sym p))
  again_keeps (Every period) due action action' u (k, e) a other = go k e
    where
      go : (k : ℕ) → u ≡ due + k * period → DueMoment (Every period) (due + period) u × (action ≡ action')
      go zero e = absurd (other (omega arith))
      go (suc k) e = ((k, omega arith), a)
  again_keeps (Burst count period) due action action' u (k, h, e) a other = go k h e
    where
      go : (k : ℕ) → k < count → u ≡ due + k * period → Promises (again due action (Burst count period)) action' u
      go zero h e = absurd (other (omega arith))
      go (suc k) h e =
          let more : 1 < count = omega arith in
          rw (lt-ltb 1 count more) ((k, omega arith, omega arith), a)

  pub fired_keeps : (slot : Slot) (action : Action) (u : ℕ) (f : Firing) → Promises slot action u → coming s j slot ≡ Some f → (f.due ≡ u → ⊥)
      → Promises (fired slot) action u
  fired_keeps Free action u f p e other = absurd p
  fired_keeps (Standing due job true) action u f p e other =
      let same : record { slot = j; due = due; at = s; action = job.action } ≡ f = cc in
      absurd (other (sym (ap (λ (x : Firing). x.due) same) ∙ sym p.0))
  fired_keeps (Standing due job false) action u f p e other =
      let same : record { slot = j; due = due; at = s; action = job.action } ≡ f = cc in
      again_keeps job.kind due job.action action u p.0 p.1 (λ d. other (sym (ap (λ (x : Firing). x.due) same) ∙ d))
  fired_keeps (Waiting due) action u f p e other = absurd p

again_from : (kind : Kind) (due : ℕ) (action action' : Action) (u : ℕ) → Promises (again due action kind) action' u
    → DueMoment kind due u × (action ≡ action')
again_from Once due action action' u p = absurd p
again_from (Every period) due action action' u ((k, e), a) = ((suc k, omega arith), a)
again_from (Burst count period) due action action' u p = go (ltb 1 count) refl p
  where
    go : (b : Bool) → ltb 1 count ≡ b
        → Promises (stand_on due action (cond b (Some (period, Burst (count - 1) period)) None)) action' u
        → DueMoment (Burst count period) due u × (action ≡ action')
    go true t ((k, h, e), a) = ((suc k, omega arith, omega arith), a)
    go false t p = absurd p

pub fired_from : (slot : Slot) (action : Action) (u : ℕ) → Promises (fired slot) action u → Promises slot action u
fired_from Free action u p = p
fired_from (Standing due job true) action u p = absurd p
fired_from (Standing due job false) action u p = again_from job.kind due job.action action u p
fired_from (Waiting due) action u p = p

again_steady : (kind : Kind) (due : ℕ) (action : Action) → Steady kind → SteadySlot (again due action kind)
again_steady Once due action s = tt
again_steady (Every period) due action s = s
again_steady (Burst count period) due action s = grind (arith, common_steps)

pub fired_steady : (slot : Slot) → SteadySlot slot → SteadySlot (fired slot)
fired_steady Free s = tt
fired_steady (Standing due job true) s = tt
fired_steady (Standing due job false) s = again_steady job.kind due job.action s
fired_steady (Waiting due) s = tt

-- the next firing of a slot is due later than the one before
again_later : (s j : ℕ) (kind : Kind) (due : ℕ) (action : Action) (g : Firing) → Steady kind → coming s j (again due action kind) ≡ Some g → due < g.due
again_later s j Once due action g st e = cc
again_later s j (Every period) due action g st e = grind (arith, common_steps)
again_later s j (Burst count period) due action g st e = grind (arith, common_steps)

pub fired_later : (s s' j : ℕ) (slot : Slot) (f g : Firing) → SteadySlot slot → coming s j slot ≡ Some f → coming s' j (fired slot) ≡ Some g → f.due < g.due
fired_later s s' j Free f g st p q = cc
fired_later s s' j (Standing due job true) f g st p q = cc
fired_later s s' j (Standing due job false) f g st p q =
    let same : due ≡ f.due = cc in
    omega (arith, again_later s' j job.kind due job.action g st q)
fired_later s s' j (Waiting due) f g st p q = cc
