-- A text in pieces: what stands between bytes of one kind. Two such bytes in a row have an empty piece between them.
-- Assumes nothing.
use Rattle.std.specs.Prelude.{ℕ, List, ◌==◌}
use Rattle.std.specs.List.{slice_split, before_first}

-- what stands between bytes c
abbrev pub cut : ℕ → List ℕ → List (List ℕ)
cut c bs = slice_split (λ b. b == c) bs

-- what stands before the first byte c, or all where there is none
abbrev pub first_piece : ℕ → List ℕ → List ℕ
first_piece c bs = before_first (λ b. b == c) bs
