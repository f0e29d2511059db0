-- What a step of a logger is to one of its slots. Assumes nothing.
use Rattle.std.proofs.Common.{◌≡◌, ℕ, ◌+◌, ◌<◌, ◌≤◌, Bool, true, false, eqb, length, Some, None, Ok, Err, Option, Result, sym, refl, ap, ◌∙◌, subst, arith}
use Rattle.std.proofs.lemmas.List.{get_or-set_same, get_or-set_other, get_or_past}
use Rattle.std.proofs.lemmas.Bool.{eqb-true, eqb-false}
use Rattle.fault.specs.declared.Fault.{Fault}
use Rattle.std.proofs.lemmas.Grind.{common_steps}
use Rattle.jobs.specs.declared.Slot.{Slot}
use Rattle.jobs.specs.declared.Slot.TheVariants.{Free, Standing, Waiting}
use Rattle.jobs.specs.declared.Job.{Job}
use Rattle.jobs.specs.declared.Kind.{Kind}
use Rattle.jobs.specs.declared.Kind.TheVariants.{Once, Every, Burst}
use Rattle.jobs.specs.declared.Action.{Action}
use Rattle.jobs.specs.declared.Firing.{Firing}
use Rattle.logger.specs.declared.ticket.Ticket.{Ticket}
use Rattle.jobs.specs.declared.Outcome.{Outcome}
use Rattle.logger.specs.State.{Log, slot_of, with_slot}
use Rattle.slots.specs.Limits.{kind_fits}
use Rattle.jobs.specs.Jobs.{taken}
use Rattle.slots.specs.Slots.{once_job, set_up_slot, coming, fired}
use Rattle.logger.specs.Calls.{after_set_up, ticketed, NextLaw, First, Quiet}
use Rattle.logger.proofs.Next.{next_law}
use Rattle.promise.specs.Runs.{Event, serve, set_up, errand, call_off, settle, next, hold, Step, is_next, emptied_by}
use Rattle.promise.specs.Words.{sets, ends}
use Rattle.promise.proofs.Firings.{kind_by, Steady}

-- nothing of the slot is due at moment s
abbrev pub Rests : ℕ → ℕ → Slot → Type 0
Rests j s slot = (f : Firing) → coming s j slot ≡ Some f → s < f.due

-- slot j is in state slot at moment s before the event, in state slot' at moment s' after it
pub data Change {X : Type 0} (j s : ℕ) (slot : Slot) (e : Event X) (s' : ℕ) (slot' : Slot) : Type 0 where
  same :
      sets j e ≡ None → ends j e ≡ false → s' ≡ s → slot' ≡ slot
      → ((f : Firing) → e ≡ next (Some f) → f.slot ≡ j → ⊥) → (e ≡ next None → Rests j s slot)
      → Change j s slot e s' slot'
  moves : (d : ℕ) (x : X) → e ≡ serve d x (Ok s') → s ≤ s' → slot' ≡ slot → Change j s slot e s' slot'
  starts :
      (job : Job) (first : ℕ) (given : Bool) → sets j e ≡ Some (job, first) → ends j e ≡ false → s' ≡ s → slot ≡ Free → slot' ≡ Standing first job given
      → kind_by given job.kind ≡ job.kind → Steady job.kind → ((b : Bool) → emptied_by b e ≡ false)
      → Change j s slot e s' slot'
  ended : sets j e ≡ None → ends j e ≡ true → s' ≡ s → slot' ≡ Free → ((f : Firing) → e ≡ next (Some f) → ⊥) → Change j s slot e s' slot'
  fires : (f : Firing) → e ≡ next (Some f) → coming s j slot ≡ Some f → f.due ≤ s → s' ≡ s → slot' ≡ fired slot → Change j s slot e s' slot'

-- ---- reading and writing one slot
pub slot_set : {X : Type 0} (l : Log X) (j : ℕ) (slot : Slot) → j < length l.slots → slot_of (with_slot l j slot) j ≡ slot
slot_set l j slot h = get_or-set_same l.slots j slot Free h

pub slot_set_other : {X : Type 0} (l : Log X) (j k : ℕ) (slot : Slot) → (k ≡ j → ⊥) → slot_of (with_slot l k slot) j ≡ slot_of l j
slot_set_other l j k slot other = get_or-set_other l.slots k j slot Free (λ e. other (sym e))

-- ---- what an accepted set-up says
pub record Fitting (s j : ℕ) (slot : Slot) (reference delay : ℕ) (job : Job) (due : ℕ) : Type 0 where
  pub low : j < 32
  pub free : slot ≡ Free
  pub fits : Steady job.kind
  pub first : due ≡ reference + delay

not_taken : (slot : Slot) → taken slot ≡ false → slot ≡ Free
not_taken Free e = refl
not_taken (Standing due job b) e = cc
not_taken (Waiting due) e = cc

steady : (kind : Kind) → kind_fits kind ≡ true → Steady kind
steady Once e = tt
steady (Every period) e = grind (arith, common_steps)
steady (Burst count period) e = grind (arith, common_steps)

pub set_up_fits : (s j : ℕ) (slot : Slot) (reference delay : ℕ) (job : Job) (due : ℕ) → Ok due ≡ set_up_slot s j slot reference delay job
    → Fitting s j slot reference delay job due
set_up_fits s j slot reference delay job due e = grind (arith, common_steps, not_taken, steady)

pub no_next : {X : Type 0} {e : Event X} {r : Option Firing} {C : Type 0} → is_next e ≡ false → e ≡ next r → C
no_next {X} p q = cc (sym (ap (λ (x : Event X). is_next x) q) ∙ p)

module _ {X : Type 0} (j : ℕ) (l m : Log X) (sized : length l.slots ≡ 32) where
  abbrev Changed : Event X → Type 0
  Changed e = Change j l.moment (slot_of l j) e m.moment (slot_of m j)

  -- nothing changed
  as_it_was : (e : Event X) → is_next e ≡ false → sets j e ≡ None → ends j e ≡ false → m ≡ l → Changed e
  as_it_was e n p q after =
      same p q (ap (λ (x : Log X). x.moment) after) (ap (λ (x : Log X). slot_of x j) after) (λ f i. no_next n i) (λ i. no_next n i)

  -- another slot changed
  elsewhere : (e : Event X) (k : ℕ) (slot : Slot) → is_next e ≡ false → sets j e ≡ None → ends j e ≡ false → (k ≡ j → ⊥) → m ≡ with_slot l k slot → Changed e
  elsewhere e k slot n p q other after =
      same p q (ap (λ (x : Log X). x.moment) after) (ap (λ (x : Log X). slot_of x j) after ∙ slot_set_other l j k slot other) (λ f i. no_next n i) (λ i. no_next n i)

  pub here : (k : ℕ) (slot : Slot) → k ≡ j → k < 32 → m ≡ with_slot l k slot → slot_of m j ≡ slot
  here k slot kj low after = grind (arith, common_steps)

  -- a slot that is set free is free, also past the table
  pub free_here : (k : ℕ) → k ≡ j → m ≡ with_slot l k Free → slot_of m j ≡ Free
  free_here k kj after = grind (arith, common_steps, get_or_past)

  changed_serve : (d : ℕ) (x : X) (r : Result ℕ Fault) → Step l (serve d x r) m → Changed (serve d x r)
  changed_serve d x (Ok t) a =
      let moment : m.moment ≡ l.moment + l.stack.measure d = ap (λ (x : Log X). x.moment) a.after in
      let same_t : t ≡ m.moment = a.answer ∙ sym moment in
      moves d x (ap (λ n. serve d x (Ok n)) same_t) (omega arith) (ap (λ (x : Log X). slot_of x j) a.after)
  changed_serve d x (Err f) a = as_it_was (serve d x (Err f)) refl refl refl a.after

  changed_set_up : (k reference delay : ℕ) (job : Job) (r : Result ℕ Fault) → Step l (set_up k reference delay job r) m → Changed (set_up k reference delay job r)
  changed_set_up k reference delay job (Ok due) a = by (eqb k j) refl
    where
      by : (b : Bool) → eqb k j ≡ b → Changed (set_up k reference delay job (Ok due))
      by true t =
          let fit = set_up_fits l.moment k (slot_of l k) reference delay job due a.answer in
          let kj : k ≡ j = eqb-true k j t in
          starts job (reference + delay) false (rw t) refl (ap (λ (x : Log X). x.moment) a.after)
          (subst (λ n. slot_of l n ≡ Free) kj fit.free)
          (here k _ kj fit.low a.after ∙ ap (λ n. Standing n job false) fit.first)
          refl fit.fits (λ b. refl)
      by false t = elsewhere (set_up k reference delay job (Ok due)) k (Standing due job false) refl (rw t) refl (eqb-false k j t) a.after
  changed_set_up k reference delay job (Err f) a = as_it_was (set_up k reference delay job (Err f)) refl refl refl a.after

  changed_errand : (k reference delay : ℕ) (action : Action) (r : Result Ticket Fault) → Step l (errand k reference delay action r) m → Changed (errand k reference delay action r)
  changed_errand k reference delay action r a = by r (set_up_slot l.moment k (slot_of l k) reference delay (once_job action)) refl a.answer a.after
    where
      at : (ticket : Ticket) (due : ℕ) → Ok due ≡ set_up_slot l.moment k (slot_of l k) reference delay (once_job action)
          → m ≡ with_slot l k (Standing due (once_job action) true) → (b : Bool) → eqb k j ≡ b → Changed (errand k reference delay action (Ok ticket))
      at ticket due o after true t =
          let fit = set_up_fits l.moment k (slot_of l k) reference delay (once_job action) due o in
          let kj : k ≡ j = eqb-true k j t in
          starts (once_job action) (reference + delay) true (rw t) refl (ap (λ (x : Log X). x.moment) after)
          (subst (λ n. slot_of l n ≡ Free) kj fit.free)
          (here k _ kj fit.low after ∙ ap (λ n. Standing n (once_job action) true) fit.first)
          refl tt (λ b. refl)
      at ticket due o after false t =
          elsewhere (errand k reference delay action (Ok ticket)) k (Standing due (once_job action) true) refl (rw t) refl (eqb-false k j t) after

      by : (r : Result Ticket Fault) (o : Result ℕ Fault) → o ≡ set_up_slot l.moment k (slot_of l k) reference delay (once_job action)
          → r ≡ ticketed l k o → m ≡ after_set_up l k (once_job action) true o → Changed (errand k reference delay action r)
      by (Ok ticket) (Ok due) o answer after = at ticket due o after (eqb k j) refl
      by (Ok ticket) (Err f) o answer after = cc
      by (Err f) (Ok due) o answer after = cc
      by (Err f) (Err g) o answer after = as_it_was (errand k reference delay action (Err f)) refl refl refl after

  changed_call_off : (k : ℕ) (r : Result ℕ Fault) → Step l (call_off k r) m → Changed (call_off k r)
  changed_call_off k (Ok due) a = by (eqb k j) refl
    where
      by : (b : Bool) → eqb k j ≡ b → Changed (call_off k (Ok due))
      by true t = ended refl t (ap (λ (x : Log X). x.moment) a.after) (free_here k (eqb-true k j t) a.after) (λ f i. no_next {e = call_off k (Ok due)} refl i)
      by false t = elsewhere (call_off k (Ok due)) k Free refl refl t (eqb-false k j t) a.after
  changed_call_off k (Err f) a = as_it_was (call_off k (Err f)) refl refl refl a.after

  changed_settle : (ticket : Ticket) (r : Result Outcome Fault) → Step l (settle ticket r) m → Changed (settle ticket r)
  changed_settle ticket (Ok due) a = by (eqb ticket.slot j) refl
    where
      by : (b : Bool) → eqb ticket.slot j ≡ b → Changed (settle ticket (Ok due))
      by true t =
          ended refl t (ap (λ (x : Log X). x.moment) a.after) (free_here ticket.slot (eqb-true ticket.slot j t) a.after)
          (λ f i. no_next {e = settle ticket (Ok due)} refl i)
      by false t = elsewhere (settle ticket (Ok due)) ticket.slot Free refl refl t (eqb-false ticket.slot j t) a.after
  changed_settle ticket (Err f) a = as_it_was (settle ticket (Err f)) refl refl refl a.after

  changed_next : (r : Option Firing) → Step l (next r) m → Changed (next r)
  changed_next None a =
      let quiet : Quiet l = subst (λ (o : Option Firing). NextLaw l o) (sym a.answer) (next_law l) in
      same refl refl (ap (λ (x : Log X). x.moment) a.after) (ap (λ (x : Log X). slot_of x j) a.after)
      (λ f i. cc) (λ i. quiet j)
  changed_next (Some f) a = by (eqb f.slot j) refl
    where
      first : First l f
      first = subst (λ (o : Option Firing). NextLaw l o) (sym a.answer) (next_law l)

      by : (b : Bool) → eqb f.slot j ≡ b → Changed (next (Some f))
      by true t =
          let kj : f.slot ≡ j = eqb-true f.slot j t in
          fires f refl (subst (λ n. coming l.moment n (slot_of l n) ≡ Some f) kj first.stands) first.due
          (ap (λ (x : Log X). x.moment) a.after)
          (here f.slot _ kj (omega (arith, first.within)) a.after ∙ ap (λ n. fired (slot_of l n)) kj)
      by false t =
          same refl refl (ap (λ (x : Log X). x.moment) a.after)
          (ap (λ (x : Log X). slot_of x j) a.after ∙ slot_set_other l j f.slot (fired (slot_of l f.slot)) (eqb-false f.slot j t))
          (λ g i k. eqb-false f.slot j t (cc)) (λ i. cc)

  pub changed : (e : Event X) → Step l e m → Changed e
  changed (serve d x r) a = changed_serve d x r a
  changed (set_up k reference delay job r) a = changed_set_up k reference delay job r a
  changed (errand k reference delay action r) a = changed_errand k reference delay action r a
  changed (call_off k r) a = changed_call_off k r a
  changed (settle ticket r) a = changed_settle ticket r a
  changed (next r) a = changed_next r a
  changed (hold n) a = as_it_was (hold n) refl refl refl a.after
