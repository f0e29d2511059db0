-- One line of a script: what each of its words must be, the fault where one is not, and the line that they are read as.
-- Assumes nothing.
use Rattle.std.specs.Prelude.{ℕ, ◌+◌, ◌-◌, ◌^◌, min, Bool, false, cond, ◌&&◌, List, [], ◌∷◌, length, drop, Ok, Err, codes, Result, nat_le, nat_lt, slice_index_or, sum_by}
use Rattle.std.specs.Option.{ok_or}
use Rattle.std.specs.Str.{bytes_eq}
use Rattle.fault.specs.declared.Cause.{Cause}
use Rattle.fault.specs.declared.Cause.TheVariants.{NoSlot, Taken, OutOfLimits, Grammar}
use Rattle.fault.specs.declared.Fault.{Fault}
use Rattle.fault.specs.Table.{in_script, against_grammar}
use Rattle.words.specs.Cuts.{first_piece}
use Rattle.words.specs.Words.{words_of}
use Rattle.words.specs.Number.{number_of}
use Rattle.jobs.specs.declared.Kind.{Kind}
use Rattle.jobs.specs.declared.Kind.TheVariants.{Once, Every, Burst}
use Rattle.jobs.specs.declared.Action.{Action}
use Rattle.jobs.specs.declared.Action.TheVariants.{Read, Mark}
use Rattle.line.specs.declared.line.Line.{Line}

infixl 1 ◌>>=◌
-- judging goes on only while nothing was wrong
abbrev pub ◌>>=◌ : {A B E : Type 0} → Result A E → (A → Result B E) → Result B E
◌>>=◌ (Ok a) f = f a
◌>>=◌ (Err e) f = Err e

-- a word, with its line and the byte of the script at which it begins
pub record Placed : Type 0 where
  pub line : ℕ
  pub byte : ℕ
  pub text : List ℕ

-- the words of a line that are still to be judged, the byte at which the first of them begins, and that at which the line ends
pub record Rest : Type 0 where
  pub line : ℕ
  pub byte : ℕ
  pub end : ℕ
  pub words : List (List ℕ)

-- how many bytes words take up, each with the byte that ends it
abbrev pub extent : List (List ℕ) → ℕ
extent ws = sum_by (λ w. length w + 1) ws

-- what was read, with what is left of the line
abbrev pub and_rest : {A : Type 0} → Result A Fault → Rest → Result (A × Rest) Fault
and_rest (Ok a) r = Ok (a, r)
and_rest (Err e) r = Err e

-- line n, which begins at this byte
abbrev pub whole_line : ℕ → ℕ → List ℕ → Rest
whole_line n byte text = record { line = n; byte = byte; end = byte + length text; words = words_of text }

abbrev pub fault_at : Cause → Placed → Fault
fault_at cause w = in_script cause w.line w.byte

-- a number of any size
abbrev pub number_at : Placed → Result ℕ Fault
number_at w = ok_or (number_of w.text) (fault_at Grammar w)

-- a number that lies within limits
abbrev pub limited : ℕ → ℕ → Placed → Result ℕ Fault
limited least most w = do
  n ← number_at w
  cond (nat_le least n && nat_le n most) (Ok n) (Err (fault_at OutOfLimits w))

-- the number of a slot that is free
abbrev pub slot_at : List Bool → Placed → Result ℕ Fault
slot_at free w = do
  n ← number_at w
  cond (nat_lt 31 n) (Err (fault_at NoSlot w)) (cond (slice_index_or free n false) (Ok n) (Err (fault_at Taken w)))

-- the next word, and what follows it; where it is missing, the line's end is at fault
abbrev pub first_of : Rest → List (List ℕ) → Result (Placed × Rest) Fault
first_of r [] = Err (against_grammar r.line r.end)
first_of r (w ∷ ws) = Ok (record { line = r.line; byte = r.byte; text = w }, record { line = r.line; byte = r.byte + (length w + 1); end = r.end; words = ws })

abbrev pub next : Rest → Result (Placed × Rest) Fault
next r = first_of r r.words

abbrev pub number : ℕ → ℕ → Rest → Result (ℕ × Rest) Fault
number least most r = do
  w ← next r
  n ← limited least most w.0
  Ok (n, w.1)

abbrev pub delay : Rest → Result (ℕ × Rest) Fault
delay = number 0 (2 ^ 40 - 1)

abbrev pub period : Rest → Result (ℕ × Rest) Fault
period = number 1 (2 ^ 40 - 1)

abbrev pub once : Rest → Result ((Kind × ℕ) × Rest) Fault
once r = do
  d ← delay r
  Ok ((Once, d.0), d.1)

abbrev pub every : Rest → Result ((Kind × ℕ) × Rest) Fault
every r = do
  p ← period r
  d ← delay p.1
  Ok ((Every p.0, d.0), d.1)

abbrev pub burst : Rest → Result ((Kind × ℕ) × Rest) Fault
burst r = do
  n ← number 1 65535 r
  p ← period n.1
  d ← delay p.1
  Ok ((Burst n.0 p.0, d.0), d.1)

abbrev pub is_word : Placed → List ℕ → Bool
is_word w text = bytes_eq w.text text

-- the kind of a job, and its delay
abbrev pub timing : Rest → Result ((Kind × ℕ) × Rest) Fault
timing r = do
  w ← next r
  cond (is_word w.0 (codes "once")) (once w.1)
      (cond (is_word w.0 (codes "every")) (every w.1)
      (cond (is_word w.0 (codes "burst")) (burst w.1)
      (Err (fault_at Grammar w.0))))

abbrev pub reads : Rest → Result (Action × Rest) Fault
reads r = do
  c ← number 0 15 r
  Ok (Read c.0, c.1)

abbrev pub action : Rest → Result (Action × Rest) Fault
action r = do
  w ← next r
  cond (is_word w.0 (codes "read")) (reads w.1)
      (cond (is_word w.0 (codes "mark")) (Ok (Mark, w.1))
      (Err (fault_at Grammar w.0)))

-- no word may follow
abbrev pub none_of : Rest → List (List ℕ) → Result (Unit {0}) Fault
none_of r [] = Ok tt
none_of r (w ∷ ws) = Err (against_grammar r.line r.byte)

abbrev pub ending : Rest → Result (Unit {0}) Fault
ending r = none_of r r.words

abbrev pub line_of : List Bool → Rest → Result Line Fault
line_of free r = do
  w ← next r
  slot ← slot_at free w.0
  t ← timing w.1
  a ← action t.1
  e ← ending a.1
  Ok (record { slot = slot; delay = t.0.1; job = record { kind = t.0.0; action = a.0 } })

-- the line that begins at this byte of a script and goes as far as the next byte 10, and where it ends
abbrev pub line_from : ℕ → ℕ → List Bool → List ℕ → Result (Line × ℕ) Fault
line_from n byte free script = do
  l ← line_of free (whole_line n byte (first_piece 10 (drop byte script)))
  Ok (l, byte + length (first_piece 10 (drop byte script)))

-- the same; where the script ends before, an empty line stands at its end
abbrev pub line_at : ℕ → ℕ → List Bool → List ℕ → Result (Line × ℕ) Fault
line_at n start free script = line_from n (min start (length script)) free script
