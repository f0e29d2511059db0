-- The firings of jobs that wait: taken one by one they come in order, and none is left out. Assumes nothing.
use Rattle.std.proofs.Common.{◌≡◌, ℕ, zero, suc, ◌+◌, ◌-◌, ◌*◌, ◌<◌, ◌≤◌, Bool, true, false, cond, ltb, ◌⊎◌, List, [], ◌∷◌, length, Some, None, sym, refl, ap, ◌∙◌, subst, inl, inr, ⊎_elim, suc-mul, zero-mul, arith}
use Rattle.std.specs.Ordering.{is_lt}
use Rattle.std.specs.List.{AllByRecursion}
use Rattle.std.specs.Option.{option_map}
use Rattle.std.proofs.ByRecursion.{All-weaker, all_shuffled}
use Rattle.std.proofs.lemmas.Bool.{ltb-true, ltb-false, true≢false, cases_order}
use Rattle.queue.specs.declared.dues.Due.{Due}
use Rattle.queue.specs.Due.{due_compare, Earlier}
use Rattle.queue.specs.Order.{inserted, added}
use Rattle.queue.proofs.DueOrder.{earlier_from_less, less_from_earlier}
use Rattle.queue.proofs.Ordered.{shuffled_inserted}
use Rattle.jobs.specs.declared.Kind.{Kind}
use Rattle.jobs.specs.declared.Kind.TheVariants.{Once, Every, Burst}
use Rattle.forecasting.specs.declared.pending.Pending.{Pending}
use Rattle.forecasting.specs.Forecast.{Counts, FiresAt, Among, Ordered}
use Rattle.forecasting.specs.Pending.{pending_order, pending_compare, again, put_back, fired_first, firings, goes_on, spacing}
use Rattle.forecasting.proofs.Earliness.{earlier_trans, earlier_reach, all_from_among}

-- x is a firing of one of those that wait
abbrev pub Pends : List Pending → Due → Type 0
Pends [] x = ⊥
Pends (p ∷ q) x = FiresAt p.due.slot p.due.moment p.kind x ⊎ Pends q x

-- a kind that fires at all, and each time later
abbrev pub Active : Kind → Type 0
Active Once = Unit {0}
Active (Every p) = 1 ≤ p
Active (Burst c p) = (1 ≤ c) × (1 ≤ p)

abbrev pub OffSlot : Pending → Pending → Type 0
OffSlot p r = p.due.slot ≡ r.due.slot → ⊥

abbrev Apart : Pending → Pending → Type 0
Apart p r = Earlier p.due r.due × OffSlot p r

-- those that wait are in order, each in a slot of its own
abbrev pub Good : List Pending → Type 0
Good [] = Unit {0}
Good (p ∷ q) = Active p.kind × AllByRecursion (Apart p) q × Good q

pub all_inserted : (P : Pending → Type 0) (x : Pending) (q : List Pending) → P x → AllByRecursion P q → AllByRecursion P (inserted pending_compare x q)
all_inserted P x q h hs = all_shuffled P (x ∷ q) (inserted pending_compare x q) (shuffled_inserted pending_order x q) (h, hs)

not_earlier : (x y : Due) → is_lt (due_compare x y) ≡ false → (x.slot ≡ y.slot → ⊥) → Earlier y x
not_earlier x y e apart =
    ⊎_elim
    (λ same. ⊎_elim (λ s. absurd (apart s)) (⊎_elim (λ s. absurd (no (inr (same, s)))) (λ s. inr (sym same, s))) (cases_order x.slot y.slot))
    (⊎_elim (λ l. absurd (no (inl l))) (λ g. inl g))
    (cases_order x.moment y.moment)
  where
    no : Earlier x y → ⊥
    no b = true≢false (sym (less_from_earlier x y b) ∙ e)

pub good_inserted : (x : Pending) (q : List Pending) → Active x.kind → AllByRecursion (OffSlot x) q → Good q → Good (inserted pending_compare x q)
good_inserted x [] a off g = (a, tt, tt)
good_inserted x (y ∷ ys) a off g = at (is_lt (due_compare x.due y.due)) (earlier_from_less x.due y.due) (not_earlier x.due y.due) (good_inserted x ys a off.1 g.2)
  where
    both : (zs : List Pending) → Earlier x.due y.due → AllByRecursion (Apart y) zs → AllByRecursion (OffSlot x) zs → AllByRecursion (Apart x) zs
    both [] b h o = tt
    both (z ∷ zs) b h o = ((earlier_trans x.due y.due z.due b h.0.0, o.0), both zs b h.1 o.1)

    at : (t : Bool) → (t ≡ true → Earlier x.due y.due) → (t ≡ false → (x.due.slot ≡ y.due.slot → ⊥) → Earlier y.due x.due) → Good (inserted pending_compare x ys)
        → Good (cond t (x ∷ (y ∷ ys)) (y ∷ inserted pending_compare x ys))
    at true yes' no' more = (a, ((yes' refl, off.0), both ys (yes' refl) g.1 off.1), g)
    at false yes' no' more = (g.0, all_inserted (Apart y) x ys (no' refl off.0, λ e. off.0 (sym e)) g.1, more)

-- ---- one firing

-- y is a firing of this kind after the first
abbrev Rests : Due → Kind → Due → Type 0
Rests d k y = (y.slot ≡ d.slot) × ((j : ℕ) × Counts k (suc j) × (y.moment ≡ d.moment + suc j * spacing k))

pends_inserted : (x : Pending) (q : List Pending) (y : Due) → Pends (inserted pending_compare x q) y → FiresAt x.due.slot x.due.moment x.kind y ⊎ Pends q y
pends_inserted x [] y h = h
pends_inserted x (z ∷ zs) y h = at (is_lt (due_compare x.due z.due)) (pends_inserted x zs y) h
  where
    at : (t : Bool) → (Pends (inserted pending_compare x zs) y → FiresAt x.due.slot x.due.moment x.kind y ⊎ Pends zs y)
        → Pends (cond t (x ∷ (z ∷ zs)) (z ∷ inserted pending_compare x zs)) y → FiresAt x.due.slot x.due.moment x.kind y ⊎ (FiresAt z.due.slot z.due.moment z.kind y ⊎ Pends zs y)
    at true more h = h
    at false more (inl f) = inr (inl f)
    at false more (inr p) = ⊎_elim (λ f. inl f) (λ r. inr (inr r)) (more p)

inserted_pends : (x : Pending) (q : List Pending) (y : Due) → FiresAt x.due.slot x.due.moment x.kind y ⊎ Pends q y → Pends (inserted pending_compare x q) y
inserted_pends x [] y h = h
inserted_pends x (z ∷ zs) y h = at (is_lt (due_compare x.due z.due)) h (inserted_pends x zs y)
  where
    at : (t : Bool) → FiresAt x.due.slot x.due.moment x.kind y ⊎ (FiresAt z.due.slot z.due.moment z.kind y ⊎ Pends zs y)
        → (FiresAt x.due.slot x.due.moment x.kind y ⊎ Pends zs y → Pends (inserted pending_compare x zs) y)
        → Pends (cond t (x ∷ (z ∷ zs)) (z ∷ inserted pending_compare x zs)) y
    at true h more = h
    at false (inl f) more = inr (more (inl f))
    at false (inr (inl f)) more = inl f
    at false (inr (inr p)) more = inr (more (inr p))

one_more : (j p m : ℕ) → m + p + j * p ≡ m + suc j * p
one_more j p m = let e = suc-mul j p in omega arith

rests_from : (d : Due) (k : Kind) (q : List Pending) (y : Due) → Pends (put_back (again d k) q) y → Rests d k y ⊎ Pends q y
rests_from d Once q y h = inr h
rests_from d (Every p) q y h =
    ⊎_elim (λ f. inl (f.0, (f.1.0, tt, f.1.2 ∙ one_more f.1.0 p d.moment))) (λ r. inr r) (pends_inserted _ q y h)
rests_from d (Burst c p) q y h = at (ltb 1 c) (ltb-true 1 c) h
  where
    at : (t : Bool) → (t ≡ true → 1 < c) → Pends (put_back (option_map (goes_on d) (cond t (Some (p, Burst (c - 1) p)) None)) q) y → Rests d (Burst c p) y ⊎ Pends q y
    at true more h =
        let big = more refl in
        ⊎_elim (λ f. inl (f.0, (f.1.0, omega (arith, f.1.1), f.1.2 ∙ one_more f.1.0 p d.moment))) (λ r. inr r) (pends_inserted _ q y h)
    at false more h = inr h

rests_to : (d : Due) (k : Kind) (q : List Pending) (y : Due) → Rests d k y ⊎ Pends q y → Pends (put_back (again d k) q) y
rests_to d Once q y (inl r) = absurd (omega (arith, r.1.1))
rests_to d Once q y (inr h) = h
rests_to d (Every p) q y (inl r) = inserted_pends _ q y (inl (r.0, (r.1.0, tt, r.1.2 ∙ sym (one_more r.1.0 p d.moment))))
rests_to d (Every p) q y (inr h) = inserted_pends _ q y (inr h)
rests_to d (Burst c p) q y h = at (ltb 1 c) (ltb-false 1 c) h
  where
    at : (t : Bool) → (t ≡ false → c ≤ 1) → Rests d (Burst c p) y ⊎ Pends q y → Pends (put_back (option_map (goes_on d) (cond t (Some (p, Burst (c - 1) p)) None)) q) y
    at true few (inl r) = inserted_pends _ q y (inl (r.0, (r.1.0, omega (arith, r.1.1), r.1.2 ∙ sym (one_more r.1.0 p d.moment))))
    at true few (inr h) = inserted_pends _ q y (inr h)
    at false few (inl r) = let low = few refl in absurd (omega (arith, r.1.1))
    at false few (inr h) = h

good_again : (d : Due) (k : Kind) (q : List Pending) → Active k → AllByRecursion (λ r. d.slot ≡ r.due.slot → ⊥) q → Good q → Good (put_back (again d k) q)
good_again d Once q a off g = g
good_again d (Every p) q a off g = good_inserted _ q a off g
good_again d (Burst c p) q a off g = at (ltb 1 c) (ltb-true 1 c)
  where
    at : (t : Bool) → (t ≡ true → 1 < c) → Good (put_back (option_map (goes_on d) (cond t (Some (p, Burst (c - 1) p)) None)) q)
    at true more = let big = more refl in good_inserted _ q (omega arith, a.1) off g
    at false more = g

pub good_next : (p : Pending) (q : List Pending) → Good (p ∷ q) → Good (fired_first p q)
good_next p q g = good_again p.due p.kind q g.0 (All-weaker (Apart p) (OffSlot p) (λ r h. h.1) q g.1) g.2

-- ---- all firings

rests_later : (d : Due) (k : Kind) (y : Due) → Active k → Rests d k y → Earlier d y
rests_later d Once y a r = absurd (omega (arith, r.1.1))
rests_later d (Every p) y a r = let e = suc-mul r.1.0 p in inl (omega (arith, r.1.2))
rests_later d (Burst c p) y a r = let e = suc-mul r.1.0 p in inl (omega (arith, r.1.2, a.1))

pends_later : (p : Pending) (q : List Pending) (y : Due) → AllByRecursion (Apart p) q → Pends q y → Earlier p.due y
pends_later p [] y h n = absurd n
pends_later p (r ∷ q) y h (inl f) = earlier_reach p.due r.due y h.0.0 f.0 (omega (arith, f.1.2))
pends_later p (r ∷ q) y h (inr n) = pends_later p q y h.1 n

next_later : (p : Pending) (q : List Pending) (y : Due) → Good (p ∷ q) → Pends (fired_first p q) y → Earlier p.due y
next_later p q y g h = ⊎_elim (rests_later p.due p.kind y g.0) (pends_later p q y g.1) (rests_from p.due p.kind q y h)

counts_none : (k : Kind) → Active k → Counts k 0
counts_none Once a = refl
counts_none (Every p) a = tt
counts_none (Burst c p) a = a.0

fires_first : (p : Pending) → Active p.kind → FiresAt p.due.slot p.due.moment p.kind p.due
fires_first p a = (refl, (0, counts_none p.kind a, let e = zero-mul (spacing p.kind) in omega arith))

pub members : (n : ℕ) (q : List Pending) (x : Due) → Good q → Among x (firings n q) → Pends q x
members zero q x g m = absurd m
members (suc n) [] x g m = absurd m
members (suc n) (p ∷ q) x g (inl e) = subst (Pends (p ∷ q)) (sym e) (inl (fires_first p g.0))
members (suc n) (p ∷ q) x g (inr m) =
    ⊎_elim (λ r. inl (r.0, (suc r.1.0, r.1.1, r.1.2))) (λ h. inr h) (rests_from p.due p.kind q x (members n (fired_first p q) x (good_next p q g) m))

pub ordered : (n : ℕ) (q : List Pending) → Good q → Ordered (firings n q)
ordered zero q g = tt
ordered (suc n) [] g = tt
ordered (suc n) (p ∷ q) g = (
  all_from_among (Earlier p.due) (firings n (fired_first p q)) (λ x m. next_later p q x g (members n (fired_first p q) x (good_next p q g) m)),
  ordered n (fired_first p q) (good_next p q g),
)

-- x is among the first n firings, or all of these come before it
abbrev pub Found : ℕ → List Due → Due → Type 0
Found n ds x = Among x ds ⊎ ((length ds ≡ n) × AllByRecursion (λ y. Earlier y x) ds)

first_or_rest : (d : Due) (k : Kind) (x : Due) → FiresAt d.slot d.moment k x → (x ≡ d) ⊎ Rests d k x
first_or_rest d k x h = at h.1.0 h.1.1 h.1.2
  where
    at : (j : ℕ) → Counts k j → x.moment ≡ d.moment + j * spacing k → (x ≡ d) ⊎ Rests d k x
    at zero c e = let z = zero-mul (spacing k) in let m : x.moment ≡ d.moment = omega arith in let s = h.0 in inl (λ i. record { moment = m i; slot = s i })
    at (suc j) c e = inr (h.0, (j, c, e))

pub complete : (n : ℕ) (q : List Pending) (x : Due) → Good q → Pends q x → Found n (firings n q) x
complete zero q x g h = inr (refl, tt)
complete (suc n) [] x g h = absurd h
complete (suc n) (p ∷ q) x g h = ⊎_elim (λ e. inl (inl e)) (λ r. later r (complete n (fired_first p q) x (good_next p q g) r)) split
  where
    split : (x ≡ p.due) ⊎ Pends (fired_first p q) x
    split =
        ⊎_elim
        (λ f. ⊎_elim (λ e. inl e) (λ r. inr (rests_to p.due p.kind q x (inl r))) (first_or_rest p.due p.kind x f))
        (λ r. inr (rests_to p.due p.kind q x (inr r)))
        h

    later : Pends (fired_first p q) x → Found n (firings n (fired_first p q)) x → Found (suc n) (p.due ∷ firings n (fired_first p q)) x
    later r (inl m) = inl (inr m)
    later r (inr o) = inr (ap suc o.0, (next_later p q x g r, o.1))

pub length_firings : (n : ℕ) (q : List Pending) → length (firings n q) ≤ n
length_firings zero q = omega arith
length_firings (suc n) [] = omega arith
length_firings (suc n) (p ∷ q) = let h = length_firings n (fired_first p q) in omega arith

-- ---- those that wait at the start

-- each of xs is put in beside slots that are not its own
abbrev pub Fresh : List Pending → List Pending → Type 0
Fresh q [] = Unit {0}
Fresh q (x ∷ xs) = Active x.kind × AllByRecursion (OffSlot x) q × Fresh (inserted pending_compare x q) xs

pub good_added : (q xs : List Pending) → Good q → Fresh q xs → Good (added pending_compare q xs)
good_added q [] g f = g
good_added q (x ∷ xs) g f = good_added (inserted pending_compare x q) xs (good_inserted x q f.0 f.1 g) f.2

pub pends_added : (q xs : List Pending) (y : Due) → Pends (added pending_compare q xs) y → Pends q y ⊎ Pends xs y
pends_added q [] y h = inl h
pends_added q (x ∷ xs) y h =
    ⊎_elim (λ a. ⊎_elim (λ f. inr (inl f)) (λ r. inl r) (pends_inserted x q y a)) (λ b. inr (inr b)) (pends_added (inserted pending_compare x q) xs y h)

pub added_pends : (q xs : List Pending) (y : Due) → Pends q y ⊎ Pends xs y → Pends (added pending_compare q xs) y
added_pends q [] y (inl h) = h
added_pends q [] y (inr h) = absurd h
added_pends q (x ∷ xs) y (inl h) = added_pends (inserted pending_compare x q) xs y (inl (inserted_pends x q y (inr h)))
added_pends q (x ∷ xs) y (inr (inl f)) = added_pends (inserted pending_compare x q) xs y (inl (inserted_pends x q y (inl f)))
added_pends q (x ∷ xs) y (inr (inr h)) = added_pends (inserted pending_compare x q) xs y (inr h)
