-- Places on a turn of n: a place is known by where a further way leads. Assumes nothing.
use Rattle.std.proofs.Common.{◌≡◌, ℕ, ◌+◌, ◌-◌, ◌%◌, ◌<◌, sym, ap, ◌∙◌, mod-lt, add_comm, arith}
use Rattle.std.proofs.Math.Nat.{add-mod-mod, add-mod_right}
use Rattle.clock.proofs.Wrapping.{add_cancel}

module _ (n : ℕ) (some : 0 < n) where
  -- two places from which s leads to the same place are one
  pub same_place : (x y s : ℕ) → x < n → y < n → (x + s) % n ≡ (y + s) % n → x ≡ y
  same_place x y s hx hy same =
      let turned : (z : ℕ) → (s % n + z) % n ≡ (z + s) % n = λ z. ap (λ k. k % n) (add_comm (s % n) z) ∙ add-mod-mod z s n in
      add_cancel n (s % n) x y (mod-lt s some) hx hy (turned x ∙ same ∙ sym (turned y))

  -- the way back by s, and on by s again, is a whole turn
  pub there_and_back : (a s : ℕ) → (a + (n - s % n) + s) % n ≡ a % n
  there_and_back a s =
      let whole : a + (n - s % n) + s % n ≡ a + n = omega (arith, mod-lt s some) in
      sym (add-mod-mod (a + (n - s % n)) s n) ∙ ap (λ x. x % n) whole ∙ add-mod_right a n
