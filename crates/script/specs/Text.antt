-- The text of lines, and which lines may stand in a script together.
-- Assumes nothing.
use Rattle.std.specs.Prelude.{◌≡◌, ℕ, Bool, List, [], ◌∷◌, ◌++◌, Ok, ◌≢◌}
use Rattle.std.specs.List.{AllByRecursion}
use Rattle.line.specs.declared.line.Line.{Line}
use Rattle.line.specs.Text.{line_text, Lawful}
use Rattle.script.specs.Script.{script_of}

-- a byte 10 after each line
abbrev pub script_text : List Line → List ℕ
script_text [] = []
script_text (l ∷ ls) = line_text l ++ (10 ∷ script_text ls)

-- no two lines have the same slot
abbrev pub Different : List Line → Type 0
Different [] = Unit {0}
Different (l ∷ ls) = AllByRecursion (λ m. m.slot ≢ l.slot) ls × Different ls

-- these lines, with these slots free at the start, have this text
pub record Writes (free : List Bool) (ls : List Line) (text : List ℕ) : Type 0 where
  pub is : text ≡ script_text ls
  pub lawful : AllByRecursion (Lawful free) ls
  pub different : Different ls

-- a script is accepted exactly when it is the text of such lines, and these are what it is read as
pub record Law (free : List Bool) (text : List ℕ) : Type 0 where
  pub accepted : (ls : List Line) → Writes free ls text → script_of free text ≡ Ok ls
  pub written : (ls : List Line) → script_of free text ≡ Ok ls → Writes free ls text
