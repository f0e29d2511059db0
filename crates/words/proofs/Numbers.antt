-- Digits, and a value with one more at the end. Assumes nothing.
use Rattle.std.proofs.Common.{◌≡◌, ℕ, ◌+◌, ◌-◌, ◌*◌, ◌<◌, ◌≤◌, min, true, false, leb, List, [], ◌∷◌, ◌++◌, length, get_or, take, refl, arith}
use Rattle.std.specs.Char.{is_ascii_digit}
use Rattle.std.proofs.lemmas.List.{take_more}
use Rattle.std.proofs.lemmas.Bool.{and_from, and_left, and_right, le-leb, lt-leb}
use Rattle.words.specs.Number.{value_after}

pub digit_in : (b : ℕ) → 48 ≤ b → b ≤ 57 → is_ascii_digit b ≡ true
digit_in b low high = and_from _ _ (le-leb 48 b low) (le-leb b 57 high)

pub digit_below : (b : ℕ) → b < 48 → is_ascii_digit b ≡ false
digit_below b h = and_left _ _ (lt-leb 48 b h)

pub digit_above : (b : ℕ) → 57 < b → is_ascii_digit b ≡ false
digit_above b h = and_right (leb 48 b) _ (lt-leb b 57 h)

value_push : (n : ℕ) (bs : List ℕ) (b : ℕ) → value_after n (bs ++ (b ∷ [])) ≡ 10 * value_after n bs + (b - 48)
value_push n [] b = refl
value_push n (c ∷ cs) b = value_push (10 * n + (c - 48)) cs b

-- a value that is cut off at m stays so as a digit is added
pub value_more : (bs : List ℕ) (i : ℕ) → i < length bs → (m : ℕ) → min (10 * min (value_after 0 (take i bs)) m + (get_or bs i 0 - 48)) m ≡ min (value_after 0 (take (i + 1) bs)) m
value_more bs i within m = rw (take_more bs i 0 within, value_push 0 (take i bs) (get_or bs i 0)) (omega arith)
