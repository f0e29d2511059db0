-- A number in decimal: `0`, or digits of which the first is no 0, as many as one likes; beyond 64 bits it counts as 2^64 - 1.
-- Assumes nothing.
use Rattle.std.specs.Prelude.{ℕ, ◌+◌, ◌-◌, ◌*◌, ◌^◌, min, Bool, true, false, not, ◌&&◌, List, [], ◌∷◌, Some, None, Option, ◌==◌, fold, if◌then◌else◌}
use Rattle.std.specs.List.{list_all}
use Rattle.std.specs.Char.{is_ascii_digit}

abbrev pub digits : List ℕ → Bool
digits bs = list_all is_ascii_digit bs

-- the value of digits that follow a number n
abbrev pub value_after : ℕ → List ℕ → ℕ
value_after n bs = fold (λ m b. 10 * m + (b - 48)) n bs

-- a 0 only as the whole number
abbrev pub plain : List ℕ → Bool
plain [] = false
plain (b ∷ []) = true
plain (b ∷ (c ∷ bs)) = not (b == 48)

abbrev pub number_of : List ℕ → Option ℕ
number_of bs = if plain bs && digits bs then Some (min (value_after 0 bs) (2 ^ 64 - 1)) else None
