-- Steps of judging, forwards and backwards. Assumes nothing.
use Rattle.std.proofs.Common.{◌≡◌, Bool, true, false, cond, Ok, Err, Result, refl, ap}
use Rattle.line.specs.Line.{◌>>=◌}

pub err_not_ok : {A E : Type 0} {e : E} {a : A} → Err e ≡ Ok a → ⊥
err_not_ok p = cc

pub same_ok : {A E : Type 0} {a b : A} → ◌≡◌ {A = Result A E} (Ok a) (Ok b) → a ≡ b
same_ok p = cc

pub bind_ok : {A B E : Type 0} {m : Result A E} {a : A} (k : A → Result B E) → m ≡ Ok a → (m >>= k) ≡ k a
bind_ok k e = ap (λ x. x >>= k) e

pub bind_err : {A B E : Type 0} {m : Result A E} {x : E} (k : A → Result B E) → m ≡ Err x → (m >>= k) ≡ Err x
bind_err k e = ap (λ x. x >>= k) e

pub bind_back : {A B E : Type 0} (m : Result A E) (k : A → Result B E) (b : B) → (m >>= k) ≡ Ok b → (a : A) × (m ≡ Ok a) × (k a ≡ Ok b)
bind_back (Ok a) k b e = (a, refl, e)
bind_back (Err x) k b e = absurd (err_not_ok e)

-- a test that lets a value through
pub pass_back : {A E : Type 0} (t : Bool) (a b : A) (e : E) → cond t (Ok a) (Err e) ≡ Ok b → (t ≡ true) × (a ≡ b)
pass_back true a b e p = (refl, same_ok p)
pass_back false a b e p = absurd (err_not_ok p)

-- a test that stops
pub stop_back : {A E : Type 0} (t : Bool) (r : Result A E) (b : A) (e : E) → cond t (Err e) r ≡ Ok b → (t ≡ false) × (r ≡ Ok b)
stop_back true r b e p = absurd (err_not_ok p)
stop_back false r b e p = (refl, p)
