-- Arithmetic modulo n, by cases on whether a number has wrapped once. Assumes nothing.
use Rattle.std.proofs.Common.{◌≡◌, ℕ, ◌+◌, ◌-◌, ◌%◌, ◌^◌, ◌<◌, ◌≤◌, ◌⊎◌, sym, ap, ◌∙◌, inl, inr, ⊎_elim, mod-eq_of_lt, arith}
use Rattle.std.proofs.lemmas.Bool.{cases_lt}
use Rattle.std.proofs.Math.Nat.{mod-eq-sub-mod, add-mod_right}
use Rattle.std.proofs.Math.Pow.{mod-mod-pow}

pub below : (n x : ℕ) → x < n → x ≡ x % n
below n x h = sym (mod-eq_of_lt h)

pub once_round : (n x : ℕ) → n ≤ x → x < n + n → x - n ≡ x % n
once_round n x low high =
    let small : x - n < n = omega arith in
    sym (mod-eq-sub-mod low ∙ mod-eq_of_lt small)

-- a number below two turns has wrapped once or not at all
pub wrapped : (n x : ℕ) → x < n + n → ((x < n) × (x % n ≡ x)) ⊎ ((n ≤ x) × (x % n ≡ x - n))
wrapped n x high =
    ⊎_elim (λ (h : x < n). inl (h, sym (below n x h))) (λ (h : n ≤ x). inr (h, sym (once_round n x h high))) (cases_lt x n)

-- adding a distance can be undone
pub add_cancel : (n r d e : ℕ) → r < n → d < n → e < n → (r + d) % n ≡ (r + e) % n → d ≡ e
add_cancel n r d e fits low high same = omega (arith, wrapped n (r + d) (omega arith), wrapped n (r + e) (omega arith))

-- the distance from b to a, added to b, is a again
pub there : (n a b : ℕ) → a < n → b < n → a ≡ (b + (a + (n - b)) % n) % n
there n a b ha hb =
    let x = a + (n - b) in
    ⊎_elim
    (λ (h : (x < n) × (x % n ≡ x)).
    let e : b + x % n ≡ a + n = omega arith in
    rw e (sym (add-mod_right a n ∙ mod-eq_of_lt ha)))
    (λ (h : (n ≤ x) × (x % n ≡ x - n)).
    let e : b + x % n ≡ a = omega arith in
    rw e (sym (mod-eq_of_lt ha)))
    (wrapped n x (omega arith))

-- a number of 64 bits that wrapped has lost whole turns only
pub turns_dropped : (w n : ℕ) → w ≤ 64 → n % 2 ^ 64 % 2 ^ w ≡ n % 2 ^ w
turns_dropped w n short =
    let e : 64 ≡ 64 - w + w = omega arith in
    ap (λ k. n % 2 ^ k % 2 ^ w) e ∙ mod-mod-pow n (64 - w) w
