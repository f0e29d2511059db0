-- Firings before others, and lists of them in order. Assumes nothing.
use Rattle.std.proofs.Common.{◌≡◌, ◌≤◌, List, [], ◌∷◌, ◌++◌, length, sym, refl, subst, inl, inr, ⊎_elim, arith}
use Rattle.std.specs.List.{AllByRecursion}
use Rattle.std.proofs.ByRecursion.{All-weaker, All-push}
use Rattle.std.proofs.lemmas.Bool.{cases_lt}
use Rattle.queue.specs.declared.dues.Due.{Due}
use Rattle.queue.specs.Due.{Earlier}
use Rattle.forecasting.specs.Forecast.{Among, Ordered}

pub earlier_trans : (x y z : Due) → Earlier x y → Earlier y z → Earlier x z
earlier_trans x y z (inl a) (inl b) = inl (omega arith)
earlier_trans x y z (inl a) (inr b) = inl (omega arith)
earlier_trans x y z (inr a) (inl b) = inl (omega arith)
earlier_trans x y z (inr a) (inr b) = inr (omega arith)

pub earlier_never : (x : Due) → Earlier x x → ⊥
earlier_never x (inl a) = omega arith
earlier_never x (inr a) = omega arith

-- later in the same slot
pub earlier_reach : (d r y : Due) → Earlier d r → y.slot ≡ r.slot → r.moment ≤ y.moment → Earlier d y
earlier_reach d r y (inl a) s h = inl (omega arith)
earlier_reach d r y (inr a) s h = ⊎_elim (λ l. inl l) (λ g. inr (omega arith, omega arith)) (cases_lt d.moment y.moment)

pub all_from_among : (P : Due → Type 0) (ds : List Due) → ((x : Due) → Among x ds → P x) → AllByRecursion P ds
all_from_among P [] f = tt
all_from_among P (d ∷ ds) f = (f d (inl refl), all_from_among P ds (λ x m. f x (inr m)))

pub all_among : (P : Due → Type 0) (ds : List Due) (x : Due) → AllByRecursion P ds → Among x ds → P x
all_among P [] x h m = absurd m
all_among P (d ∷ ds) x h (inl e) = subst P (sym e) h.0
all_among P (d ∷ ds) x h (inr m) = all_among P ds x h.1 m

past : (z : Due) (zs ys : List Due) → AllByRecursion (Earlier z) ys → AllByRecursion (λ y. Among y (z ∷ zs)) ys → AllByRecursion (λ y. Among y zs) ys
past z zs [] h m = tt
past z zs (y ∷ ys) h m =
    (⊎_elim (λ e. absurd (earlier_never z (subst (Earlier z) e h.0))) (λ a. a) m.0, past z zs ys h.1 m.1)

-- a list in order that holds others in order is no shorter than they
pub fits_in : (zs ys : List Due) → Ordered zs → Ordered ys → AllByRecursion (λ y. Among y zs) ys → length ys ≤ length zs
fits_in [] [] oz oy m = omega arith
fits_in [] (y ∷ ys) oz oy m = absurd m.0
fits_in (z ∷ zs) [] oz oy m = omega arith
fits_in (z ∷ zs) (y ∷ ys) oz oy m =
    ⊎_elim
    (λ e.
    let F : Due → Type 0 = λ x. AllByRecursion (Earlier x) ys in
    let h = fits_in zs ys oz.1 oy.1 (past z zs ys (subst F e oy.0) m.1) in
    omega (arith, h))
    (λ a.
    let first : Earlier z y = all_among (Earlier z) zs y oz.0 a in
    let after = All-weaker (Earlier y) (Earlier z) (λ x b. earlier_trans z y x first b) ys oy.0 in
    let h = fits_in zs (y ∷ ys) oz.1 oy (a, past z zs ys after m.1) in
    omega (arith, h))
    m.0

pub ordered_push : (ys : List Due) (x : Due) → Ordered ys → AllByRecursion (λ y. Earlier y x) ys → Ordered (ys ++ (x ∷ []))
ordered_push [] x o h = (tt, tt)
ordered_push (y ∷ ys) x o h = (All-push (Earlier y) ys x o.0 h.0, ordered_push ys x o.1 h.1)
