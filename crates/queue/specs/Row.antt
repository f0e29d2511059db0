-- The first record of a list, and those after it.
-- Assumes nothing.
use Rattle.std.specs.Prelude.{List, [], ◌∷◌, Some, None, Option}

abbrev pub first : {T : Type 0} → List T → Option T
first [] = None
first (x ∷ xs) = Some x

abbrev pub later : {T : Type 0} → List T → List T
later [] = []
later (x ∷ xs) = xs
