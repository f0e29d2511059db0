-- What the nearest distance of a table is: one of a standing slot, and none is smaller. Assumes nothing.
use Rattle.std.proofs.Common.{◌≡◌, ℕ, zero, suc, ◌<◌, ◌≤◌, min, ◌⊎◌, List, [], ◌∷◌, get_or, Some, None, Option, sym, refl, ap, ◌∙◌, inl, inr, arith}
use Rattle.std.proofs.lemmas.Bool.{cases_lt}
use Rattle.jobs.specs.declared.Slot.{Slot}
use Rattle.jobs.specs.declared.Slot.TheVariants.{Free}
use Rattle.slots.specs.Slots.{distance}
use Rattle.table.specs.Table.{nearer, nearest}
use Rattle.table.proofs.Soonest.{never}

some_same : {B : Type 0} {x y : B} → Some x ≡ Some y → x ≡ y
some_same e = cc

-- left is the distance of one of the slots, and none is smaller
pub record Smallest (s : ℕ) (slots : List Slot) (left : ℕ) : Type 0 where
  pub place : ℕ
  pub stands : distance s (get_or slots place Free) ≡ Some left
  pub least : (k n : ℕ) → distance s (get_or slots k Free) ≡ Some n → left ≤ n

abbrev pub Answer : ℕ → List Slot → Option ℕ → Type 0
Answer s slots None = (k : ℕ) → distance s (get_or slots k Free) ≡ None
Answer s slots (Some left) = Smallest s slots left

module _ (s : ℕ) (slot : Slot) (rest : List Slot) where
  here : (left : ℕ) → distance s slot ≡ Some left → ((k n : ℕ) → distance s (get_or rest k Free) ≡ Some n → left ≤ n) → Smallest s (slot ∷ rest) left
  here left e later = record { place = 0; stands = e; least = least }
    where
      least : (k n : ℕ) → distance s (get_or (slot ∷ rest) k Free) ≡ Some n → left ≤ n
      least zero n p = let same_left : left ≡ n = some_same (sym e ∙ p) in omega arith
      least (suc k) n p = later k n p

  further : (left : ℕ) → ((n : ℕ) → distance s slot ≡ Some n → left ≤ n) → Smallest s rest left → Smallest s (slot ∷ rest) left
  further left first small = record { place = suc small.place; stands = small.stands; least = least }
    where
      least : (k n : ℕ) → distance s (get_or (slot ∷ rest) k Free) ≡ Some n → left ≤ n
      least zero n p = first n p
      least (suc k) n p = small.least k n p

  both : (o p : Option ℕ) → distance s slot ≡ o → Answer s rest p → Answer s (slot ∷ rest) (nearer o p)
  both None None e a = none
    where
      none : (k : ℕ) → distance s (get_or (slot ∷ rest) k Free) ≡ None
      none zero = e
      none (suc k) = a k
  both None (Some n) e a = further n (λ m p. never (sym e ∙ p)) a
  both (Some m) None e a = here m e (λ k n p. never (sym (a k) ∙ p))
  both (Some m) (Some n) e a = by (cases_lt m n)
    where
      by : (m < n) ⊎ (n ≤ m) → Smallest s (slot ∷ rest) (min m n)
      by (inl h) =
          let m_is : min m n ≡ m = omega arith in
          rw m_is (here m e (λ k i p. omega (arith, a.least k i p)))
      by (inr h) =
          let n_is : min m n ≡ n = omega arith in
          rw n_is (further n (λ i p. let same_left : m ≡ i = some_same (sym e ∙ p) in omega arith) a)

pub answered : (s : ℕ) (slots : List Slot) → Answer s slots (nearest s slots)
answered s [] = λ k. refl
answered s (slot ∷ rest) = both s slot rest (distance s slot) (nearest s rest) refl (answered s rest)

-- the law leaves one distance only
pub smallest_is : (s : ℕ) (slots : List Slot) (left : ℕ) → Smallest s slots left → nearest s slots ≡ Some left
smallest_is s slots left a = by (nearest s slots) (answered s slots)
  where
    by : (o : Option ℕ) → Answer s slots o → o ≡ Some left
    by None b = never (sym (b a.place) ∙ a.stands)
    by (Some n) b =
        let same_left : n ≡ left = omega (arith, a.least b.place n b.stands, b.least a.place left a.stands) in
        ap (λ k. Some k) same_left

pub none_stands : (s : ℕ) (slots : List Slot) → ((k : ℕ) → distance s (get_or slots k Free) ≡ None) → nearest s slots ≡ None
none_stands s slots none = by (nearest s slots) (answered s slots)
  where
    by : (o : Option ℕ) → Answer s slots o → o ≡ None
    by None b = refl
    by (Some n) b = never (sym (none b.place) ∙ b.stands)

-- so that a table can be gone through from the front
pub nearer_assoc : (a b c : Option ℕ) → nearer (nearer a b) c ≡ nearer a (nearer b c)
nearer_assoc None b c = refl
nearer_assoc (Some m) None c = refl
nearer_assoc (Some m) (Some n) None = refl
nearer_assoc (Some m) (Some n) (Some k) = let same_min : min (min m n) k ≡ min m (min n k) = omega arith in ap (λ i. Some i) same_min
