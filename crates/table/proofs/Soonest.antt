-- What the soonest firing of a table is: no standing slot is earlier, nor a lower one as early. Assumes nothing.
use Rattle.std.proofs.Common.{◌≡◌, ℕ, zero, suc, ◌+◌, ◌<◌, ◌≤◌, Bool, true, false, cond, leb, List, [], ◌∷◌, length, get_or, Some, None, Option, sym, refl, ap, ◌∙◌, arith}
use Rattle.std.proofs.lemmas.Bool.{leb-true, leb-false}
use Rattle.jobs.specs.declared.Slot.{Slot}
use Rattle.jobs.specs.declared.Slot.TheVariants.{Free, Standing, Waiting}
use Rattle.jobs.specs.declared.Firing.{Firing}
use Rattle.slots.specs.Slots.{coming}
use Rattle.table.specs.Table.{sooner, soonest}

pub never : {B : Type 0} {x : B} {C : Type 0} → None ≡ Some x → C
never e = let z : ◌≡◌ {A = ℕ} 0 1 = cc in absurd (omega arith)

-- the number of a slot does not matter to when it is due
pub same_due : (s m n : ℕ) (slot : Slot) (f g : Firing) → coming s m slot ≡ Some f → coming s n slot ≡ Some g → f.due ≡ g.due
same_due s m n Free f g p q = never p
same_due s m n (Standing due job errand) f g p q = grind arith
same_due s m n (Waiting due) f g p q = never p

same_none : (s m n : ℕ) (slot : Slot) → coming s m slot ≡ None → coming s n slot ≡ None
same_none s m n Free p = refl
same_none s m n (Standing due job errand) p = never (sym p)
same_none s m n (Waiting due) p = refl

pub coming_at : (s n : ℕ) (slot : Slot) (f : Firing) → coming s n slot ≡ Some f → f.at ≡ s
coming_at s n Free f p = never p
coming_at s n (Standing due job errand) f p = grind arith
coming_at s n (Waiting due) f p = never p

pub coming_slot : (s n : ℕ) (slot : Slot) (f : Firing) → coming s n slot ≡ Some f → f.slot ≡ n
coming_slot s n Free f p = never p
coming_slot s n (Standing due job errand) f p = grind arith
coming_slot s n (Waiting due) f p = never p

-- f is the firing of one of the slots, which are numbered from j on: the earliest of all, and the lowest of those
pub record Best (s j : ℕ) (slots : List Slot) (f : Firing) : Type 0 where
  pub place : ℕ
  pub within : place < length slots
  pub number : f.slot ≡ j + place
  pub stands : coming s f.slot (get_or slots place Free) ≡ Some f
  pub least : (k n : ℕ) (g : Firing) → coming s n (get_or slots k Free) ≡ Some g → f.due ≤ g.due
  pub lowest : (k n : ℕ) (g : Firing) → k < place → coming s n (get_or slots k Free) ≡ Some g → f.due < g.due

abbrev pub Answer : ℕ → ℕ → List Slot → Option Firing → Type 0
Answer s j slots None = (k n : ℕ) → coming s n (get_or slots k Free) ≡ None
Answer s j slots (Some f) = Best s j slots f

module _ (s j : ℕ) (slot : Slot) (rest : List Slot) where
  here : (f : Firing) → coming s j slot ≡ Some f → ((k n : ℕ) (g : Firing) → coming s n (get_or rest k Free) ≡ Some g → f.due ≤ g.due)
      → Best s j (slot ∷ rest) f
  here f p later = record {
    place = 0;
    within = omega arith;
    number = coming_slot s j slot f p ∙ omega arith;
    stands = ap (λ n. coming s n slot) (coming_slot s j slot f p) ∙ p;
    least = least;
    lowest = λ k n g low e. absurd (omega arith);
  }
    where
      least : (k n : ℕ) (g : Firing) → coming s n (get_or (slot ∷ rest) k Free) ≡ Some g → f.due ≤ g.due
      least zero n g e = omega (arith, same_due s j n slot f g p e)
      least (suc k) n g e = later k n g e

  further : (f : Firing) → ((n : ℕ) (g : Firing) → coming s n slot ≡ Some g → f.due < g.due) → Best s (suc j) rest f
      → Best s j (slot ∷ rest) f
  further f first best = record {
    place = suc best.place;
    within = omega (arith, best.within);
    number = omega (arith, best.number);
    stands = best.stands;
    least = least;
    lowest = lowest;
  }
    where
      least : (k n : ℕ) (g : Firing) → coming s n (get_or (slot ∷ rest) k Free) ≡ Some g → f.due ≤ g.due
      least zero n g e = omega (arith, first n g e)
      least (suc k) n g e = best.least k n g e

      lowest : (k n : ℕ) (g : Firing) → k < suc best.place → coming s n (get_or (slot ∷ rest) k Free) ≡ Some g → f.due < g.due
      lowest zero n g h e = first n g e
      lowest (suc k) n g h e = best.lowest k n g (omega arith) e

  both : (o p : Option Firing) → coming s j slot ≡ o → Answer s (suc j) rest p → Answer s j (slot ∷ rest) (sooner o p)
  both None None e a = none
    where
      none : (k n : ℕ) → coming s n (get_or (slot ∷ rest) k Free) ≡ None
      none zero n = same_none s j n slot e
      none (suc k) n = a k n
  both None (Some g) e a = further g (λ n h q. never (sym (same_none s j n slot e) ∙ q)) a
  both (Some f) None e a = here f e (λ k n g q. never (sym (a k n) ∙ q))
  both (Some f) (Some g) e a = by (leb f.due g.due) refl
    where
      by : (b : Bool) → leb f.due g.due ≡ b → Answer s j (slot ∷ rest) (cond b (Some f) (Some g))
      by true t = here f e (λ k n h q. omega (arith, leb-true _ _ t, a.least k n h q))
      by false t = further g (λ n h q. omega (arith, leb-false _ _ t, same_due s j n slot f h e q)) a

pub answered : (s j : ℕ) (slots : List Slot) → Answer s j slots (soonest s j slots)
answered s j [] = λ k n. refl
answered s j (slot ∷ rest) = both s j slot rest (coming s j slot) (soonest s (suc j) rest) refl (answered s (suc j) rest)
