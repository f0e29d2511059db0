-- A whole script: its lines from the top, each with the slots that are still free, or the first fault.
-- Assumes nothing.
use Rattle.std.specs.Prelude.{ℕ, ◌+◌, Bool, false, cond, List, [], ◌∷◌, length, Ok, Err, Result, nat_lt, slice_set}
use Rattle.fault.specs.declared.Fault.{Fault}
use Rattle.fault.specs.Table.{against_grammar}
use Rattle.words.specs.Cuts.{cut}
use Rattle.line.specs.declared.line.Line.{Line}
use Rattle.line.specs.Line.{◌>>=◌, whole_line, line_of, line_at}

-- after the last byte 10 nothing may stand; what does is judged as a line, and then for the byte that it lacks
abbrev pub last_piece : ℕ → ℕ → List Bool → List ℕ → Result (List Line) Fault
last_piece n byte free [] = Ok []
last_piece n byte free (b ∷ bs) = do
  l ← line_of free (whole_line n byte (b ∷ bs))
  Err (against_grammar n (byte + length (b ∷ bs)))

-- pieces from line n on, the first of which begins at this byte
abbrev pub script_from : ℕ → ℕ → List Bool → List (List ℕ) → Result (List Line) Fault
script_from n byte free [] = Ok []
script_from n byte free (p ∷ []) = last_piece n byte free p
script_from n byte free (p ∷ (q ∷ qs)) = do
  l ← line_of free (whole_line n byte p)
  ls ← script_from (n + 1) (byte + (length p + 1)) (slice_set free l.slot false) (q ∷ qs)
  Ok (l ∷ ls)

-- the lines of a script, where these slots are free at its start
abbrev pub script_of : List Bool → List ℕ → Result (List Line) Fault
script_of free text = script_from 1 0 free (cut 10 text)

-- the line that begins at a byte of a script, and where the byte 10 that must end it stands
abbrev pub ended_line : ℕ → ℕ → List Bool → List ℕ → Result (Line × ℕ) Fault
ended_line n byte free text = do
  l ← line_at n byte free text
  cond (nat_lt l.1 (length text)) (Ok l) (Err (against_grammar n l.1))
