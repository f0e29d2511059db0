-- What is seen of a slot is told by what is asked of it: one slot alone, between the moments read, has one course. Assumes nothing.
use Rattle.std.proofs.Common.{◌≡◌, ℕ, ◌≤◌, Bool, true, false, ◌||◌, T, eqb, ◌⊎◌, List, [], ◌∷◌, length, Some, None, Ok, Err, Option, Result, sym, refl, ap, ◌∙◌, subst, inl, inr, arith}
use Rattle.std.proofs.lemmas.Bool.{eqb-true, eqb-false, and_parts, and_cases, cond-true, cond-false}
use Rattle.fault.specs.declared.Fault.{Fault}
use Rattle.jobs.specs.declared.Slot.{Slot}
use Rattle.jobs.specs.declared.Slot.TheVariants.{Free, Standing}
use Rattle.jobs.specs.declared.Job.{Job}
use Rattle.jobs.specs.declared.Action.{Action}
use Rattle.jobs.specs.declared.Firing.{Firing}
use Rattle.logger.specs.declared.ticket.Ticket.{Ticket}
use Rattle.jobs.specs.declared.Outcome.{Outcome}
use Rattle.logger.specs.State.{Log, slot_of, with_slot}
use Rattle.slots.specs.Slots.{once_job, set_up_slot, call_off_slot, settle_slot, coming, fired}
use Rattle.logger.specs.Calls.{after_set_up, ticketed, settle_answer, freed}
use Rattle.table.proofs.Soonest.{coming_slot}
use Rattle.promise.specs.Runs.{Event, serve, set_up, errand, call_off, settle, next, hold, Step, Run, done, then, is_next, emptied_by, Emptied}
use Rattle.promise.specs.Words.{when, listed, brought, Shared, moment_read, asks_set_up, asks_errand, asks_call_off, asks_settle, own_ticket, shared, Seen, moment_seen, set_up_told, errand_told, call_off_told, settle_told, reported, numberless, seen}
use Rattle.promise.proofs.Changes.{Change, same, moves, starts, ended, fires, Rests, changed, no_next, set_up_fits, slot_set_other, here, free_here}
use Rattle.promise.proofs.Frames.{framed}
use Rattle.promise.proofs.Standing.{rests_next, rests_free}

-- a moment read or a call of the slot with what was seen of it, or a report of the slot
pub data Own : Type 0 where
  call : Shared → Seen → Own
  report : Seen → Own

abbrev own : {X : Type 0} → ℕ → ℕ → Event X → Option Own
own number j (serve d x (Ok t)) = Some (call (moment_read t) (moment_seen t))
own number j (serve d x (Err f)) = None
own number j (set_up k reference delay job r) = when (eqb k j) (call (asks_set_up reference delay job) (set_up_told r))
own number j (errand k reference delay action r) = when (eqb k j) (call (asks_errand reference delay action) (errand_told (numberless r)))
own number j (call_off k r) = when (eqb k j) (call asks_call_off (call_off_told r))
own number j (settle ticket r) = when (own_ticket number j ticket) (call asks_settle (settle_told r))
own number j (next None) = None
own number j (next (Some f)) = when (eqb f.slot j) (report (reported f.due f.at f.action))
own number j (hold n) = None

abbrev asked : Own → Option Shared
asked (call a b) = Some a
asked (report b) = None

abbrev told_of : Own → Option Seen
told_of (call a b) = Some b
told_of (report b) = Some b

abbrev then_of : {B C : Type 0} → (B → Option C) → Option B → Option C
then_of f None = None
then_of f (Some b) = f b

-- ---- shared and seen are parts of own
when_of : {B C : Type 0} (f : B → Option C) (b : Bool) (x : B) (y : C) → f x ≡ Some y → when b y ≡ then_of f (when b x)
when_of f true x y e = sym e
when_of f false x y e = refl

shared_own : {X : Type 0} (number j : ℕ) (e : Event X) → shared number j e ≡ then_of asked (own number j e)
shared_own number j (serve d x (Ok t)) = refl
shared_own number j (serve d x (Err f)) = refl
shared_own number j (set_up k reference delay job r) = when_of asked (eqb k j) _ _ refl
shared_own number j (errand k reference delay action r) = when_of asked (eqb k j) _ _ refl
shared_own number j (call_off k r) = when_of asked (eqb k j) _ _ refl
shared_own number j (settle ticket r) = when_of asked (own_ticket number j ticket) _ _ refl
shared_own number j (next None) = refl
shared_own number j (next (Some f)) = none_of (eqb f.slot j)
  where
    none_of : (b : Bool) → None ≡ then_of asked (when b (report (reported f.due f.at f.action)))
    none_of true = refl
    none_of false = refl
shared_own number j (hold n) = refl

seen_own : {X : Type 0} (number j : ℕ) (e : Event X) → seen number j e ≡ then_of told_of (own number j e)
seen_own number j (serve d x (Ok t)) = refl
seen_own number j (serve d x (Err f)) = refl
seen_own number j (set_up k reference delay job r) = when_of told_of (eqb k j) _ _ refl
seen_own number j (errand k reference delay action r) = when_of told_of (eqb k j) _ _ refl
seen_own number j (call_off k r) = when_of told_of (eqb k j) _ _ refl
seen_own number j (settle ticket r) = when_of told_of (own_ticket number j ticket) _ _ refl
seen_own number j (next None) = refl
seen_own number j (next (Some f)) = when_of told_of (eqb f.slot j) _ _ refl
seen_own number j (hold n) = refl

brought_listed : {B C : Type 0} (f : B → Option C) (o : Option B) (bs : List B) → brought f (listed o bs) ≡ listed (then_of f o) (brought f bs)
brought_listed f None bs = refl
brought_listed f (Some b) bs = refl

brought_own : {A B C : Type 0} (f : A → Option C) (g : A → Option B) (h : B → Option C) → ((x : A) → f x ≡ then_of h (g x))
    → (xs : List A) → brought f xs ≡ brought h (brought g xs)
brought_own f g h e [] = refl
brought_own {A} {B} {C} f g h e (x ∷ xs) =
    ap (λ (o : Option C). listed o (brought f xs)) (e x) ∙ ap (λ (ys : List C). listed (then_of h (g x)) ys) (brought_own f g h e xs)
    ∙ sym (brought_listed h (g x) (brought g xs))

-- ---- one slot alone
-- the ticket of an accepted errand, but for its number
abbrev slotted : ℕ → Result ℕ Fault → Result Ticket Fault
slotted j (Ok due) = Ok (record { number = 0; slot = j; spent = false })
slotted j (Err f) = Err f

abbrev placed : Job → Bool → Result ℕ Fault → Slot → Slot
placed job given (Ok due) slot = Standing due job given
placed job given (Err f) slot = slot

abbrev given_up : {Y : Type 0} → Result Y Fault → Slot → Slot
given_up (Ok y) slot = Free
given_up (Err f) slot = slot

module _ (j : ℕ) where
  abbrev answer : ℕ → Slot → Shared → Seen
  answer s slot (moment_read t) = moment_seen t
  answer s slot (asks_set_up reference delay job) = set_up_told (set_up_slot s j slot reference delay job)
  answer s slot (asks_errand reference delay action) = errand_told (slotted j (set_up_slot s j slot reference delay (once_job action)))
  answer s slot asks_call_off = call_off_told (call_off_slot j slot)
  answer s slot asks_settle = settle_told (settle_slot j slot)

  abbrev moment_by : ℕ → Shared → ℕ
  moment_by s (moment_read t) = t
  moment_by s (asks_set_up reference delay job) = s
  moment_by s (asks_errand reference delay action) = s
  moment_by s asks_call_off = s
  moment_by s asks_settle = s

  abbrev slot_by : ℕ → Slot → Shared → Slot
  slot_by s slot (moment_read t) = slot
  slot_by s slot (asks_set_up reference delay job) = placed job false (set_up_slot s j slot reference delay job) slot
  slot_by s slot (asks_errand reference delay action) = placed (once_job action) true (set_up_slot s j slot reference delay (once_job action)) slot
  slot_by s slot asks_call_off = given_up (call_off_slot j slot) slot
  slot_by s slot asks_settle = given_up (settle_slot j slot) slot

  pub record Reports (s : ℕ) (slot : Slot) (b : Seen) : Type 0 where
    pub firing : Firing
    pub comes_now : coming s j slot ≡ Some firing
    pub due : firing.due ≤ s
    pub is : b ≡ reported firing.due firing.at firing.action

  -- a course of the slot from a moment and a state on: it reports while something is due, and is asked only while nothing is
  abbrev Alone : ℕ → Slot → List Own → Type 0
  Alone s slot [] = Rests j s slot
  Alone s slot (call a b ∷ os) = Rests j s slot × (b ≡ answer s slot a) × Alone (moment_by s a) (slot_by s slot a) os
  Alone s slot (report b ∷ os) = Reports s slot b × Alone s (fired slot) os

  busy : {C : Type 0} (s : ℕ) (slot : Slot) (b : Seen) → Rests j s slot → Reports s slot b → C
  busy s slot b rest r = absurd (omega (arith, rest r.firing r.comes_now, r.due))

  -- what is asked decides all of it
  one_course : (s : ℕ) (slot : Slot) (os ps : List Own) → Alone s slot os → Alone s slot ps → brought asked os ≡ brought asked ps → os ≡ ps
  one_course s slot [] [] x y e = refl
  one_course s slot [] (call a b ∷ ps) x y e = cc
  one_course s slot [] (report b ∷ ps) x y e = busy s slot b x y.0
  one_course s slot (call a b ∷ os) [] x y e = cc
  one_course s slot (call a b ∷ os) (call a' b' ∷ ps) x y e =
      let aa : a' ≡ a = cc in
      let rest : brought asked os ≡ brought asked ps = cc in
      let y2 : Alone (moment_by s a) (slot_by s slot a) ps = subst (λ (q : Shared). Alone (moment_by s q) (slot_by s slot q) ps) aa y.2 in
      let bb : b ≡ b' = x.1 ∙ ap (λ (q : Shared). answer s slot q) (sym aa) ∙ sym y.1 in
      let tail : os ≡ ps = one_course (moment_by s a) (slot_by s slot a) os ps x.2 y2 rest in
      cc
  one_course s slot (call a b ∷ os) (report b' ∷ ps) x y e = busy s slot b' x.0 y.0
  one_course s slot (report b ∷ os) [] x y e = busy s slot b y x.0
  one_course s slot (report b ∷ os) (call a' b' ∷ ps) x y e = busy s slot b y.0 x.0
  one_course s slot (report b ∷ os) (report b' ∷ ps) x y e =
      let ff : x.0.firing ≡ y.0.firing = cc (sym x.0.comes_now ∙ y.0.comes_now) in
      let bb : b ≡ b' = x.0.is ∙ ap (λ (f : Firing). reported f.due f.at f.action) ff ∙ sym y.0.is in
      let tail : os ≡ ps = one_course s (fired slot) os ps x.1 y.1 e in
      cc

-- ---- a step of a logger, as one slot hears of it
module _ {X : Type 0} (j : ℕ) (l m : Log X) (sized : length l.slots ≡ 32) where
  abbrev Heard : Event X → Option Own → Type 0
  Heard e None = (m.moment ≡ l.moment) × (slot_of m j ≡ slot_of l j)
  Heard e (Some (call a b)) =
      (is_next e ≡ false) × (b ≡ answer j l.moment (slot_of l j) a) × (m.moment ≡ moment_by j l.moment a)
      × (slot_of m j ≡ slot_by j l.moment (slot_of l j) a)
  Heard e (Some (report b)) = Reports j l.moment (slot_of l j) b × (m.moment ≡ l.moment) × (slot_of m j ≡ fired (slot_of l j))

  nothing : m ≡ l → (m.moment ≡ l.moment) × (slot_of m j ≡ slot_of l j)
  nothing after = (ap (λ (x : Log X). x.moment) after, ap (λ (x : Log X). slot_of x j) after)

  other_slot : (k : ℕ) (slot : Slot) → (k ≡ j → ⊥) → m ≡ with_slot l k slot → (m.moment ≡ l.moment) × (slot_of m j ≡ slot_of l j)
  other_slot k slot other after =
      (ap (λ (x : Log X). x.moment) after, ap (λ (x : Log X). slot_of x j) after ∙ slot_set_other l j k slot other)

  other_set_up : (k : ℕ) (job : Job) (b : Bool) (o : Result ℕ Fault) → (k ≡ j → ⊥) → m ≡ after_set_up l k job b o
      → (m.moment ≡ l.moment) × (slot_of m j ≡ slot_of l j)
  other_set_up k job b (Ok due) other after = other_slot k (Standing due job b) other after
  other_set_up k job b (Err f) other after = nothing after

  other_freed : {Y : Type 0} (k : ℕ) (o : Result Y Fault) → (k ≡ j → ⊥) → m ≡ freed l k o → (m.moment ≡ l.moment) × (slot_of m j ≡ slot_of l j)
  other_freed k (Ok y) other after = other_slot k Free other after
  other_freed k (Err f) other after = nothing after

  own_set_up : (reference delay : ℕ) (job : Job) (b : Bool) (o : Result ℕ Fault) → o ≡ set_up_slot l.moment j (slot_of l j) reference delay job
      → m ≡ after_set_up l j job b o → (m.moment ≡ l.moment) × (slot_of m j ≡ placed job b o (slot_of l j))
  own_set_up reference delay job b (Ok due) o after = (
    ap (λ (x : Log X). x.moment) after,
    here j l m sized j (Standing due job b) refl (set_up_fits l.moment j (slot_of l j) reference delay job due o).low after,
  )
  own_set_up reference delay job b (Err f) o after = nothing after

  own_freed : {Y : Type 0} (o : Result Y Fault) → m ≡ freed l j o → (m.moment ≡ l.moment) × (slot_of m j ≡ given_up o (slot_of l j))
  own_freed (Ok y) after = (ap (λ (x : Log X). x.moment) after, free_here j l m sized j refl after)
  own_freed (Err f) after = nothing after

  heard_serve : (number d : ℕ) (x : X) (r : Result ℕ Fault) → Step l (serve d x r) m → Heard (serve d x r) (own number j (serve d x r))
  heard_serve number d x (Ok t) a =
      (refl, refl, ap (λ (x : Log X). x.moment) a.after ∙ sym a.answer, ap (λ (x : Log X). slot_of x j) a.after)
  heard_serve number d x (Err f) a = nothing a.after

  heard_set_up : (k reference delay : ℕ) (job : Job) (r : Result ℕ Fault) → Step l (set_up k reference delay job r) m → (b : Bool) → eqb k j ≡ b
      → Heard (set_up k reference delay job r) (when b (call (asks_set_up reference delay job) (set_up_told r)))
  heard_set_up k reference delay job r a true t =
      let a' : Step l (set_up j reference delay job r) m = subst (λ n. Step l (set_up n reference delay job r) m) (eqb-true k j t) a in
      let w = own_set_up reference delay job false r a'.answer a'.after in (
        refl,
        ap (λ (o : Result ℕ Fault). set_up_told o) a'.answer,
        w.0,
        w.1 ∙ ap (λ (o : Result ℕ Fault). placed job false o (slot_of l j)) a'.answer,
      )
  heard_set_up k reference delay job r a false t = other_set_up k job false r (eqb-false k j t) a.after

  numberless_ticketed : (o : Result ℕ Fault) → numberless (ticketed l j o) ≡ slotted j o
  numberless_ticketed (Ok due) = refl
  numberless_ticketed (Err f) = refl

  heard_errand : (k reference delay : ℕ) (action : Action) (r : Result Ticket Fault) → Step l (errand k reference delay action r) m → (b : Bool) → eqb k j ≡ b
      → Heard (errand k reference delay action r) (when b (call (asks_errand reference delay action) (errand_told (numberless r))))
  heard_errand k reference delay action r a true t =
      let a' : Step l (errand j reference delay action r) m = subst (λ n. Step l (errand n reference delay action r) m) (eqb-true k j t) a in
      let o = set_up_slot l.moment j (slot_of l j) reference delay (once_job action) in
      let w = own_set_up reference delay (once_job action) true o refl a'.after in (
        refl,
        ap (λ (y : Result Ticket Fault). errand_told (numberless y)) a'.answer ∙ ap (λ (y : Result Ticket Fault). errand_told y) (numberless_ticketed o),
        w.0,
        w.1,
      )
  heard_errand k reference delay action r a false t = other_set_up k (once_job action) true _ (eqb-false k j t) a.after

  heard_call_off : (k : ℕ) (r : Result ℕ Fault) → Step l (call_off k r) m → (b : Bool) → eqb k j ≡ b
      → Heard (call_off k r) (when b (call asks_call_off (call_off_told r)))
  heard_call_off k r a true t =
      let a' : Step l (call_off j r) m = subst (λ n. Step l (call_off n r) m) (eqb-true k j t) a in
      let w = own_freed r a'.after in (
        refl,
        ap (λ (o : Result ℕ Fault). call_off_told o) a'.answer,
        w.0,
        w.1 ∙ ap (λ (o : Result ℕ Fault). given_up o (slot_of l j)) a'.answer,
      )
  heard_call_off k r a false t = other_freed k r (eqb-false k j t) a.after

  foreign : (ticket : Ticket) (r : Result Outcome Fault) → r ≡ settle_answer l ticket → eqb ticket.number l.number ≡ false → m ≡ freed l ticket.slot r → m ≡ l
  foreign ticket (Ok y) answer t after = cc (answer ∙ cond-false _ _ _ t)
  foreign ticket (Err f) answer t after = after

  heard_settle : (ticket : Ticket) (r : Result Outcome Fault) → Step l (settle ticket r) m → (b : Bool) → own_ticket l.number j ticket ≡ b
      → Heard (settle ticket r) (when b (call asks_settle (settle_told r)))
  heard_settle ticket r a true t =
      let parts = and_parts (eqb ticket.slot j) (eqb ticket.number l.number) t in
      let slot_j : ticket.slot ≡ j = eqb-true ticket.slot j parts.0 in
      let answer_j : r ≡ settle_slot j (slot_of l j) =
      a.answer ∙ cond-true _ _ _ parts.1 ∙ ap (λ n. settle_slot n (slot_of l n)) slot_j in
      let w = own_freed r (a.after ∙ ap (λ n. freed l n r) slot_j) in (
        refl,
        ap (λ (o : Result Outcome Fault). settle_told o) answer_j,
        w.0,
        w.1 ∙ ap (λ (o : Result Outcome Fault). given_up o (slot_of l j)) answer_j,
      )
  heard_settle ticket r a false t = by (and_cases (eqb ticket.slot j) (eqb ticket.number l.number) t)
    where
      by : (eqb ticket.slot j ≡ false) ⊎ (eqb ticket.number l.number ≡ false) → (m.moment ≡ l.moment) × (slot_of m j ≡ slot_of l j)
      by (inl p) = other_freed ticket.slot r (eqb-false ticket.slot j p) a.after
      by (inr p) = nothing (foreign ticket r a.answer p a.after)

  heard_next : (f : Firing) → Change {X = X} j l.moment (slot_of l j) (next (Some f)) m.moment (slot_of m j) → (b : Bool) → eqb f.slot j ≡ b
      → Heard (next (Some f)) (when b (report (reported f.due f.at f.action)))
  heard_next f (same p q s slot other quiet) true t = absurd (other f refl (eqb-true f.slot j t))
  heard_next f (same p q s slot other quiet) false t = (s, slot)
  heard_next f (moves d x i grows slot) b t = no_next {e = serve d x (Ok m.moment)} refl (sym i)
  heard_next f (starts job first given p q s free slot kind st empty) b t = cc
  heard_next f (ended p q s slot other) b t = absurd (other f refl)
  heard_next f (fires g i co due s slot) true t =
      let gf : g ≡ f = cc in
      (record { firing = g; comes_now = co; due = due; is = ap (λ (y : Firing). reported y.due y.at y.action) (sym gf) }, s, slot)
  heard_next f (fires g i co due s slot) false t =
      let fg : f ≡ g = cc in
      absurd (eqb-false f.slot j t (ap (λ (y : Firing). y.slot) fg ∙ coming_slot l.moment j (slot_of l j) g co))

  pub heard : (e : Event X) → Step l e m → Heard e (own l.number j e)
  heard (serve d x r) a = heard_serve l.number d x r a
  heard (set_up k reference delay job r) a = heard_set_up k reference delay job r a (eqb k j) refl
  heard (errand k reference delay action r) a = heard_errand k reference delay action r a (eqb k j) refl
  heard (call_off k r) a = heard_call_off k r a (eqb k j) refl
  heard (settle ticket r) a = heard_settle ticket r a (own_ticket l.number j ticket) refl
  heard (next None) a = nothing a.after
  heard (next (Some f)) a = heard_next f (changed j l m sized (next (Some f)) a) (eqb f.slot j) refl
  heard (hold n) a = nothing a.after

  -- what is heard goes before a course
  pub heard_then : (e : Event X) (o : Option Own) (os : List Own) → Heard e o → (is_next e ≡ false → Rests j l.moment (slot_of l j))
      → Alone j m.moment (slot_of m j) os → Alone j l.moment (slot_of l j) (listed o os)
  heard_then e None os h rest alone =
      subst (λ n. Alone j n (slot_of l j) os) h.0 (subst (λ (y : Slot). Alone j m.moment y os) h.1 alone)
  heard_then e (Some (call a b)) os h rest alone = (
    rest h.0,
    h.1,
    subst (λ n. Alone j n (slot_by j l.moment (slot_of l j) a) os) h.2 (subst (λ (y : Slot). Alone j m.moment y os) h.3 alone),
  )
  heard_then e (Some (report b)) os h rest alone =
      (h.0, subst (λ n. Alone j n (fired (slot_of l j)) os) h.1 (subst (λ (y : Slot). Alone j m.moment y os) h.2 alone))

truly : (b a : Bool) → T (b || a) → a ≡ false → b ≡ true
truly true a t e = refl
truly false true t e = cc
truly false false t e = absurd t

yes_true : (b : Bool) → T b → b ≡ true
yes_true true t = refl
yes_true false t = absurd t

-- every run, seen at one slot, is a course of that slot alone
alone : {X : Type 0} (j : ℕ) {l l' : Log X} {es : List (Event X)} (b : Bool) → Run l es l' → length l.slots ≡ 32 → Emptied b es
    → (b ≡ true → Rests j l.moment (slot_of l j)) → Alone j l.moment (slot_of l j) (brought (own l.number j) es)
alone j b done size em rest = rest (yes_true b em)
alone {X} j b (then {l = l} {m = m} {n = n} {e = e} {es = es} a r) size em rest =
    let f = framed l m e a in
    let on : Alone j m.moment (slot_of m j) (brought (own m.number j) es) =
    alone j {l = m} (emptied_by b e) r (f.size ∙ size) em.1
    (λ empty. rests_next j l.moment m.moment (slot_of l j) (slot_of m j) b e rest empty (changed j l m size e a)) in
    heard_then j l m size e (own l.number j e) (brought (own l.number j) es) (heard j l m size e a)
    (λ other. rest (truly b (is_next e) em.0 other))
    (subst (λ k. Alone j m.moment (slot_of m j) (brought (own k j) es)) f.number on)

-- so two runs from a free slot at the same moment that share what is asked have the same seen
pub same_seen : {X Y : Type 0} (j : ℕ) (l l' : Log X) (k k' : Log Y) (es : List (Event X)) (fs : List (Event Y))
    → length l.slots ≡ 32 → length k.slots ≡ 32 → slot_of l j ≡ Free → slot_of k j ≡ Free → l.moment ≡ k.moment
    → Run l es l' → Run k fs k' → Emptied true es → Emptied true fs
    → brought (shared l.number j) es ≡ brought (shared k.number j) fs
    → brought (seen l.number j) es ≡ brought (seen k.number j) fs
same_seen {X} {Y} j l l' k k' es fs size size' free free' moment r r' em em' e =
    let os = brought (own l.number j) es in
    let ps = brought (own k.number j) fs in
    let x : Alone j l.moment (slot_of l j) os = alone j true r size em (λ b. rests_free j l.moment (slot_of l j) free) in
    let y : Alone j k.moment (slot_of k j) ps = alone j true r' size' em' (λ b. rests_free j k.moment (slot_of k j) free') in
    let y' : Alone j l.moment (slot_of l j) ps =
    subst (λ n. Alone j n (slot_of l j) ps) (sym moment) (subst (λ (s : Slot). Alone j k.moment s ps) (free' ∙ sym free) y) in
    let asks : brought asked os ≡ brought asked ps =
    sym (brought_own (shared l.number j) (own l.number j) asked (shared_own l.number j) es) ∙ e
    ∙ brought_own (shared k.number j) (own k.number j) asked (shared_own k.number j) fs in
    let same_own : os ≡ ps = one_course j l.moment (slot_of l j) os ps x y' asks in
    brought_own (seen l.number j) (own l.number j) told_of (seen_own l.number j) es
    ∙ ap (λ (q : List Own). brought told_of q) same_own
    ∙ sym (brought_own (seen k.number j) (own k.number j) told_of (seen_own k.number j) fs)
