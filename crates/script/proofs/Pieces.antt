-- One line of a script taken off its front. Assumes nothing.
use Rattle.std.proofs.Common.{◌≡◌, ℕ, ◌+◌, ◌-◌, ◌<◌, ◌≤◌, min, Bool, true, false, not, cond, eqb, ltb, List, [], ◌∷◌, ◌++◌, length, drop, set, Ok, Err, Result, sym, refl, ap, ◌∙◌, ⊎_elim, append_assoc, arith, length-drop}
use Rattle.std.specs.List.{position_or_len}
use Rattle.std.proofs.lemmas.List.{take_all, drop-drop, length-take-le}
use Rattle.std.proofs.lemmas.List.Splits.{slice_split_first}
use Rattle.std.proofs.lemmas.List.Sums.{prefix_len-le-length}
use Rattle.std.proofs.lemmas.Bool.{cases_lt, ltb-true, ltb-false}
use Rattle.fault.specs.declared.Fault.{Fault}
use Rattle.fault.specs.Table.{against_grammar}
use Rattle.words.specs.Cuts.{cut, first_piece}
use Rattle.words.proofs.Cuts.{cut_some, cut_last}
use Rattle.line.specs.declared.line.Line.{Line}
use Rattle.line.specs.Line.{◌>>=◌, line_of, line_from, line_at, whole_line}
use Rattle.line.specs.Text.{Lawful}
use Rattle.line.proofs.Back.{lined}
use Rattle.line.proofs.Binds.{err_not_ok, same_ok, bind_ok, bind_err, bind_back, pass_back}
use Rattle.script.specs.Script.{last_piece, script_from, ended_line}

-- lines read before what is still to be read
abbrev pub prefixed : List Line → Result (List Line) Fault → Result (List Line) Fault
prefixed ls (Ok ms) = Ok (ls ++ ms)
prefixed ls (Err e) = Err e

pub prefixed_none : (r : Result (List Line) Fault) → prefixed [] r ≡ r
prefixed_none (Ok ms) = refl
prefixed_none (Err e) = refl

pub prefixed_more : (ls : List Line) (l : Line) (r : Result (List Line) Fault) → prefixed ls (prefixed (l ∷ []) r) ≡ prefixed (ls ++ (l ∷ [])) r
prefixed_more ls l (Ok ms) = ap (λ xs. Ok xs) (sym (append_assoc ls (l ∷ []) ms))
prefixed_more ls l (Err e) = refl

prefixed_bind : (l : Line) (r : Result (List Line) Fault) → (r >>= (λ ls. Ok (l ∷ ls))) ≡ prefixed (l ∷ []) r
prefixed_bind l (Ok ms) = refl
prefixed_bind l (Err e) = refl

same_err : {A : Type 0} {x y : Fault} → ◌≡◌ {A = Result A Fault} (Err x) (Err y) → x ≡ y
same_err e = cc

-- what was refused before a last step
stopped : {A B : Type 0} (m : Result A Fault) (k : A → B) (x : Fault) → (m >>= (λ a. Ok (k a))) ≡ Err x → m ≡ Err x
stopped (Ok a) k x e = absurd (err_not_ok (sym e))
stopped (Err y) k x e = ap (λ z. Err z) (same_err e)

-- the first piece, where others follow
pub from_more : (n at : ℕ) (free : List Bool) (ps : List (List ℕ)) (p q : List ℕ) (qs : List (List ℕ)) → ps ≡ p ∷ (q ∷ qs)
    → script_from n at free ps ≡ (line_of free (whole_line n at p) >>= (λ l. script_from (n + 1) (at + (length p + 1)) (set free l.slot false) (q ∷ qs) >>= (λ ls. Ok (l ∷ ls))))
from_more n at free ps p q qs e = ap (script_from n at free) e

last_some : (n at : ℕ) (free : List Bool) (p : List ℕ) → 0 < length p
    → last_piece n at free p ≡ (line_of free (whole_line n at p) >>= (λ l. Err (against_grammar n (at + length p))))
last_some n at free [] h = absurd (omega arith)
last_some n at free (b ∷ bs) h = refl

-- the line at a byte of a script
module _ (n at : ℕ) (free : List Bool) (text : List ℕ) (inside : at < length text) where
  abbrev rest : List ℕ
  rest = drop at text

  abbrev size : ℕ
  size = position_or_len (λ b. eqb b 10) rest

  abbrev piece : List ℕ
  piece = first_piece 10 rest

  rest_is : length rest ≡ length text - at
  rest_is = length-drop at text

  piece_is : length piece ≡ size
  piece_is = length-take-le size rest (prefix_len-le-length (λ b. not (eqb b 10)) rest)

  here : line_at n at free text ≡ line_from n at free text
  here = let same : min at (length text) ≡ at = omega arith in ap (λ b. line_from n b free text) same

  -- a line, as it was read
  record Found (l : Line) (end : ℕ) : Type 0 where
    right : line_of free (whole_line n at piece) ≡ Ok l
    ends : end ≡ at + size
    within : end ≤ length text

  found : (l : Line) (end : ℕ) → line_at n at free text ≡ Ok (l, end) → Found l end
  found l end e =
      let b = bind_back (line_of free (whole_line n at piece)) _ (l, end) (sym here ∙ e) in
      let pair = same_ok b.2 in
      let ends : end ≡ at + size = sym (ap (λ (q : Line × ℕ). q.1) pair) ∙ ap (λ m. at + m) piece_is in
      record {
        right = b.1 ∙ ap (λ (q : Line × ℕ). Ok q.0) pair;
        ends = ends;
        within = omega (arith, ends, rest_is, prefix_len-le-length (λ b. not (eqb b 10)) rest);
      }

  cut_here : size < length rest → cut 10 rest ≡ piece ∷ cut 10 (drop (at + (size + 1)) text)
  cut_here h = slice_split_first (λ b. eqb b 10) rest 0 h ∙ ap (λ bs. piece ∷ cut 10 bs) (drop-drop (size + 1) at text)

  cut_there : length rest ≤ size → cut 10 rest ≡ piece ∷ []
  cut_there h = cut_last 10 rest h ∙ ap (λ p. p ∷ []) (sym (take_all size rest h))

  more : (l : Line) (end : ℕ) → Found l end → end < length text
      → script_from n at free (cut 10 rest) ≡ prefixed (l ∷ []) (script_from (n + 1) (end + 1) (set free l.slot false) (cut 10 (drop (end + 1) text)))
  more l end r h =
      let later = drop (at + (size + 1)) text in
      let some = cut_some 10 later in
      let low : size < length rest = omega (arith, r.ends, rest_is) in
      let after : at + (length piece + 1) ≡ end + 1 = omega (arith, r.ends, piece_is) in
      let on : at + (size + 1) ≡ end + 1 = omega (arith, r.ends) in
      from_more n at free (cut 10 rest) piece some.0 some.1 (cut_here low ∙ ap (λ ps. piece ∷ ps) some.2)
      ∙ bind_ok _ r.right
      ∙ prefixed_bind l _
      ∙ ap (λ ps. prefixed (l ∷ []) (script_from (n + 1) (at + (length piece + 1)) (set free l.slot false) ps)) (sym some.2)
      ∙ ap (λ m. prefixed (l ∷ []) (script_from (n + 1) m (set free l.slot false) (cut 10 later))) after
      ∙ ap (λ m. prefixed (l ∷ []) (script_from (n + 1) (end + 1) (set free l.slot false) (cut 10 (drop m text)))) on

  unended : (l : Line) (end : ℕ) → Found l end → length text ≤ end → script_from n at free (cut 10 rest) ≡ Err (against_grammar n end)
  unended l end r h =
      let high : length rest ≤ size = omega (arith, r.ends, rest_is) in
      let after : at + length piece ≡ end = omega (arith, r.ends, piece_is) in
      let some : 0 < length piece = omega (arith, r.ends, piece_is) in
      ap (script_from n at free) (cut_there high)
      ∙ last_some n at free piece some
      ∙ bind_ok _ r.right
      ∙ ap (λ m. Err (against_grammar n m)) after

  wrong : (x : Fault) → line_of free (whole_line n at piece) ≡ Err x → script_from n at free (cut 10 rest) ≡ Err x
  wrong x e = ⊎_elim early last (cases_lt size (length rest))
    where
      early : size < length rest → script_from n at free (cut 10 rest) ≡ Err x
      early h =
          let some = cut_some 10 (drop (at + (size + 1)) text) in
          from_more n at free (cut 10 rest) piece some.0 some.1 (cut_here h ∙ ap (λ ps. piece ∷ ps) some.2)
          ∙ bind_err _ e

      last : length rest ≤ size → script_from n at free (cut 10 rest) ≡ Err x
      last h =
          let some : 0 < length piece = omega (arith, rest_is, piece_is) in
          ap (script_from n at free) (cut_there h) ∙ last_some n at free piece some ∙ bind_err _ e

  -- a line that was taken, and what is left to read
  pub record Taken (l : Line) (end : ℕ) : Type 0 where
    pub from : at ≤ end
    pub lawful : Lawful free l
    pub on : script_from n at free (cut 10 rest) ≡ prefixed (l ∷ []) (script_from (n + 1) (end + 1) (set free l.slot false) (cut 10 (drop (end + 1) text)))

  pub taken : (l : Line) (end : ℕ) → line_at n at free text ≡ Ok (l, end) → end < length text → Taken l end
  taken l end e short =
      let line = found l end e in
      record {
        from = omega (arith, line.ends);
        lawful = (lined free (whole_line n at piece) l line.right).lawful;
        on = more l end line short;
      }

  pub on_ended : (l : Line) (end : ℕ) → ended_line n at free text ≡ Ok (l, end) → Taken l end
  on_ended l end e =
      let b = bind_back (line_at n at free text) _ (l, end) e in
      let p = pass_back (ltb b.0.1 (length text)) b.0 (l, end) _ b.2 in
      let test : ltb end (length text) ≡ true = sym (ap (λ (q : Line × ℕ). ltb q.1 (length text)) p.1) ∙ p.0 in
      taken l end (b.1 ∙ ap (λ q. Ok q) p.1) (ltb-true end (length text) test)

  -- a line that was refused
  pub refused : (x : Fault) → ended_line n at free text ≡ Err x → script_from n at free (cut 10 rest) ≡ Err x
  refused x e = by (line_at n at free text) refl e
    where
      lacks : (t : Bool) (p : Line × ℕ) → ltb p.1 (length text) ≡ t → line_at n at free text ≡ Ok p → cond t (Ok p) (Err (against_grammar n p.1)) ≡ Err x → script_from n at free (cut 10 rest) ≡ Err x
      lacks true p test is e = absurd (err_not_ok (sym e))
      lacks false p test is e = unended p.0 p.1 (found p.0 p.1 is) (ltb-false p.1 (length text) test) ∙ ap (λ z. Err z) (same_err e)

      by : (r : Result (Line × ℕ) Fault) → line_at n at free text ≡ r → (r >>= (λ p. cond (ltb p.1 (length text)) (Ok p) (Err (against_grammar n p.1)))) ≡ Err x → script_from n at free (cut 10 rest) ≡ Err x
      by (Ok p) is e = lacks (ltb p.1 (length text)) p refl is e
      by (Err y) is e = wrong y (stopped (line_of free (whole_line n at piece)) _ y (sym here ∙ is)) ∙ ap (λ z. Err z) (same_err e)
