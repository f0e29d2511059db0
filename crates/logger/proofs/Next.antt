-- The law of next: what it answers is due, and no standing slot is earlier, nor a lower one as early. Assumes nothing.
use Rattle.std.proofs.Common.{◌≡◌, ℕ, ◌<◌, ◌≤◌, Bool, true, false, cond, leb, ◌⊎◌, get_or, Some, None, Option, sym, refl, ap, ◌∙◌, subst, inl, inr, arith}
use Rattle.std.proofs.lemmas.Bool.{leb-true, leb-false, cases_order}
use Rattle.std.proofs.lemmas.Grind.{common_steps}
use Rattle.jobs.specs.declared.Slot.{Slot}
use Rattle.jobs.specs.declared.Slot.TheVariants.{Free, Standing, Waiting}
use Rattle.jobs.specs.declared.Firing.{Firing}
use Rattle.slots.specs.Slots.{coming}
use Rattle.table.specs.Dues.{ready, ready_slot}
use Rattle.table.specs.Table.{soonest}
use Rattle.table.proofs.Soonest.{never, Best, Answer, answered, coming_at}
use Rattle.table.proofs.Least.{its_due, ready_is}
use Rattle.logger.specs.State.{Log, slot_of}
use Rattle.logger.specs.Calls.{if_due, next_answer, First, Quiet, NextLaw}
use Rattle.logger.specs.Within.{Reached}
use Rattle.logger.specs.Choice.{Chosen}

pub next_law : {X : Type 0} (l : Log X) → NextLaw l (next_answer l)
next_law l = by (soonest l.moment 0 l.slots) (answered l.moment 0 l.slots)
  where
    due : (f : Firing) → Best l.moment 0 l.slots f → (b : Bool) → leb f.due f.at ≡ b → NextLaw l (cond b (Some f) None)
    due f best true t =
        let at : f.at ≡ l.moment = coming_at l.moment f.slot _ f best.stands in
        let place : f.slot ≡ best.place = best.number ∙ omega arith in
        record {
          within = omega (arith, best.within, place);
          stands = rw place (rw place at best.stands);
          due = omega (arith, leb-true _ _ t, at);
          least = λ k g e. best.least k k g e;
          lowest = λ k g low e. best.lowest k k g (omega (arith, place)) e;
        }
    due f best false t = λ k g e.
        let at : f.at ≡ l.moment = coming_at l.moment f.slot _ f best.stands in
        omega (arith, leb-false _ _ t, at, best.least k k g e)

    by : (o : Option Firing) → Answer l.moment 0 l.slots o → NextLaw l (if_due o)
    by None a = λ k g e. never (sym (a k k) ∙ e)
    by (Some f) best = due f best (leb f.due f.at) refl

pub law_of_answer : {X : Type 0} (l : Log X) (r : Option Firing) → r ≡ next_answer l → NextLaw l r
law_of_answer l r e = subst (NextLaw l) (sym e) (next_law l)

-- and the law leaves one answer only: what is first is what next answers, and none where nothing is due
module _ {X : Type 0} (l : Log X) where
  one_first : (f g : Firing) → First l f → First l g → f ≡ g
  one_first f g a b =
      cc (sym a.stands ∙ ap (λ n. coming l.moment n (slot_of l n)) (same_slot (cases_order f.slot g.slot)) ∙ b.stands)
    where
      same_slot : (f.slot ≡ g.slot) ⊎ ((f.slot < g.slot) ⊎ (g.slot < f.slot)) → f.slot ≡ g.slot
      same_slot (inl e) = e
      same_slot (inr (inl h)) = absurd (omega (arith, b.lowest f.slot f h a.stands, a.least g.slot g b.stands))
      same_slot (inr (inr h)) = absurd (omega (arith, a.lowest g.slot g h b.stands, b.least f.slot f a.stands))

  pub first_is : (f : Firing) → First l f → next_answer l ≡ Some f
  first_is f a = by (next_answer l) (next_law l)
    where
      by : (o : Option Firing) → NextLaw l o → o ≡ Some f
      by None quiet = absurd (omega (arith, quiet f.slot f a.stands, a.due))
      by (Some g) b = ap (λ (y : Firing). Some y) (one_first g f b a)

  pub quiet_is : Quiet l → next_answer l ≡ None
  quiet_is quiet = by (next_answer l) (next_law l)
    where
      by : (o : Option Firing) → NextLaw l o → o ≡ None
      by None a = refl
      by (Some g) b = absurd (omega (arith, quiet g.slot g b.stands, b.due))

-- ---- what next does, by the slot that is ready

reached_from : (s j : ℕ) (slot : Slot) (f : Firing) → coming s j slot ≡ Some f → f.due ≤ s → Reached s slot
reached_from s j Free f p h = tt
reached_from s j (Standing due job errand) f p h = grind (arith, common_steps)
reached_from s j (Waiting due) f p h = tt

module _ {X : Type 0} (l : Log X) where
  taken : (f : Firing) → Best l.moment 0 l.slots f → soonest l.moment 0 l.slots ≡ Some f
      → (b : Bool) → leb f.due l.moment ≡ b → Chosen l (cond b (Some f.slot) None)
  taken f best is b t =
      let at : f.at ≡ l.moment = coming_at l.moment f.slot _ f best.stands in
      let place : f.slot ≡ best.place = best.number ∙ omega arith in
      let stands : coming l.moment f.slot (slot_of l f.slot) ≡ Some f =
      ap (λ k. coming l.moment f.slot (get_or l.slots k Free)) place ∙ best.stands in
      let told : next_answer l ≡ cond b (Some f) None =
      ap if_due is ∙ ap (λ s. cond (leb f.due s) (Some f) None) at ∙ ap (λ c. cond c (Some f) None) t in
      by b t told stands place
    where
      by : (b : Bool) → leb f.due l.moment ≡ b → next_answer l ≡ cond b (Some f) None
          → coming l.moment f.slot (slot_of l f.slot) ≡ Some f → f.slot ≡ best.place → Chosen l (cond b (Some f.slot) None)
      by true t told stands place = grind (arith, common_steps, reached_from)
      by false t told stands place = told

  next_by : (o : Option Firing) → soonest l.moment 0 l.slots ≡ o → Answer l.moment 0 l.slots o → Chosen l (ready l.moment (its_due o))
  next_by None is a = ap if_due is
  next_by (Some f) is best = taken f best is (leb f.due l.moment) refl

  pub chosen : Chosen l (ready_slot l.moment l.slots)
  chosen =
      subst (Chosen l) (sym (ready_is l.moment l.slots))
      (next_by (soonest l.moment 0 l.slots) refl (answered l.moment 0 l.slots))
