-- A script is accepted exactly when it is the text of lawful lines, which it is read as. Assumes nothing.
use Rattle.std.proofs.Common.{◌≡◌, ℕ, ◌+◌, ◌<◌, Bool, true, false, cond, eqb, List, [], ◌∷◌, ◌++◌, length, get_or, set, Ok, count_by, sym, refl, ap, ◌∙◌, subst, arith}
use Rattle.std.specs.List.{AllByRecursion, join_with_byte}
use Rattle.std.proofs.lemmas.Grind.{common_steps}
use Rattle.std.proofs.lemmas.List.{get_or-set_other}
use Rattle.std.proofs.lemmas.List.Splits.{slice_split_at, join_with_byte-slice_split}
use Rattle.std.proofs.lemmas.List.Sums.{sum_by-set}
use Rattle.std.proofs.lemmas.Bool.{true≢false}
use Rattle.words.specs.Cuts.{cut}
use Rattle.line.specs.declared.line.Line.{Line}
use Rattle.line.specs.Line.{line_of, whole_line}
use Rattle.script.specs.Script.{last_piece, script_from, script_of}
use Rattle.line.specs.Text.{line_text, Lawful}
use Rattle.script.specs.Text.{script_text, Different, Writes, Law}
use Rattle.line.proofs.Back.{lined}
use Rattle.line.proofs.Binds.{err_not_ok, same_ok, bind_ok, bind_back}
use Rattle.words.proofs.Cuts.{cut_some}
use Rattle.line.proofs.Forth.{line_forth}
use Rattle.line.proofs.Letters.{lawful_small, line_text_words, line_text_lacks}
use Rattle.script.proofs.Pieces.{from_more}

-- a slot that is free after slot s was taken
taken_now : (free : List Bool) (s : ℕ) → get_or (set free s false) s false ≡ false
taken_now free s = grind (arith, common_steps)

still_other : (free : List Bool) (s j : ℕ) → get_or (set free s false) j false ≡ true → j ≡ s → ⊥
still_other free s j e same = true≢false (sym e ∙ ap (λ k. get_or (set free s false) k false) same ∙ taken_now free s)

still_free : (free : List Bool) (s j : ℕ) → get_or (set free s false) j false ≡ true → get_or free j false ≡ true
still_free free s j e = sym (get_or-set_other free s j false false (still_other free s j e)) ∙ e

pub lawful_later : (free : List Bool) (s : ℕ) (ls : List Line) → AllByRecursion (Lawful free) ls → AllByRecursion (λ m. m.slot ≡ s → ⊥) ls → AllByRecursion (Lawful (set free s false)) ls
lawful_later free s [] h d = tt
lawful_later free s (l ∷ ls) h d =
    ((h.0.0, get_or-set_other free s l.slot false false d.0 ∙ h.0.1, h.0.2), lawful_later free s ls h.1 d.1)

lawful_before : (free : List Bool) (s : ℕ) (ls : List Line) → AllByRecursion (Lawful (set free s false)) ls → AllByRecursion (Lawful free) ls × AllByRecursion (λ m. m.slot ≡ s → ⊥) ls
lawful_before free s [] h = (tt, tt)
lawful_before free s (l ∷ ls) h =
    let more = lawful_before free s ls h.1 in
    (((h.0.0, still_free free s l.slot h.0.1, h.0.2), more.0), (still_other free s l.slot h.0.1, more.1))

script_forth : (ls : List Line) (n at : ℕ) (free : List Bool) → AllByRecursion (Lawful free) ls → Different ls → script_from n at free (cut 10 (script_text ls)) ≡ Ok ls
script_forth [] n at free h d = refl
script_forth (l ∷ ls) n at free h d =
    let some = cut_some 10 (script_text ls) in
    let pieces = slice_split_at (λ b. eqb b 10) (line_text l) 10 (script_text ls) (line_text_lacks l (lawful_small free l h.0)) refl in
    let rest = script_forth ls (n + 1) (at + (length (line_text l) + 1)) (set free l.slot false) (lawful_later free l.slot ls h.1 d.0) d.1 in
    from_more n at free _ (line_text l) some.0 some.1 (pieces ∙ ap (λ ps. line_text l ∷ ps) some.2)
    ∙ bind_ok _ (line_forth free (whole_line n at (line_text l)) l h.0 (line_text_words l (lawful_small free l h.0)))
    ∙ bind_ok _ (ap (script_from (n + 1) (at + (length (line_text l) + 1)) (set free l.slot false)) (sym some.2) ∙ rest)

-- what is accepted
last_back : (n at : ℕ) (free : List Bool) (p : List ℕ) (ls : List Line) → last_piece n at free p ≡ Ok ls → Writes free ls p
last_back n at free [] ls e = let W : List Line → Type 0 = λ ms. Writes free ms [] in subst W (same_ok e) (record { is = refl; lawful = tt; different = tt })
last_back n at free (b ∷ bs) ls e = absurd (err_not_ok (bind_back (line_of free (whole_line n at (b ∷ bs))) _ ls e).2)

script_back : (ps : List (List ℕ)) (n at : ℕ) (free : List Bool) (ls : List Line) → script_from n at free ps ≡ Ok ls → Writes free ls (join_with_byte 10 ps)
script_back [] n at free ls e = let W : List Line → Type 0 = λ ms. Writes free ms [] in subst W (same_ok e) (record { is = refl; lawful = tt; different = tt })
script_back (p ∷ []) n at free ls e = last_back n at free p ls e
script_back (p ∷ (q ∷ qs)) n at free ls e =
    let b = bind_back (line_of free (whole_line n at p)) _ ls e in
    let l = b.0 in
    let c = bind_back (script_from (n + 1) (at + (length p + 1)) (set free l.slot false) (q ∷ qs)) _ ls b.2 in
    let here = lined free (whole_line n at p) l b.1 in
    let more = script_back (q ∷ qs) (n + 1) (at + (length p + 1)) (set free l.slot false) c.0 c.1 in
    let before = lawful_before free l.slot c.0 more.lawful in
    let text : p ≡ line_text l = sym (join_with_byte-slice_split 32 p) ∙ ap (join_with_byte 32) here.words in
    let W : List Line → Type 0 = λ ms. Writes free ms (join_with_byte 10 (p ∷ (q ∷ qs))) in
    subst W (same_ok c.2) (record {
      is = ap (λ x. x ++ (10 ∷ join_with_byte 10 (q ∷ qs))) text ∙ ap (λ x. line_text l ++ (10 ∷ x)) more.is;
      lawful = (here.lawful, before.0);
      different = (before.1, more.different);
    })

pub law : (free : List Bool) (text : List ℕ) → Law free text
law free text = record {
  accepted = λ ls w. ap (script_of free) w.is ∙ script_forth ls 1 0 free w.lawful w.different;
  written = λ ls e.
      let b = script_back (cut 10 text) 1 0 free ls e in
      record { is = sym (join_with_byte-slice_split 10 text) ∙ b.is; lawful = b.lawful; different = b.different };
}

-- how many slots are free
abbrev pub frees : List Bool → ℕ
frees free = count_by (λ b. b) free

pub frees_fewer : (free : List Bool) (s : ℕ) → s < length free → get_or free s false ≡ true → frees (set free s false) + 1 ≡ frees free
frees_fewer free s h e =
    let p : frees (set free s false) + cond {A = ℕ} (get_or free s false) 1 0 ≡ frees free + 0 = sum_by-set (λ b. cond b 1 0) free s false false h in
    let q : cond {A = ℕ} (get_or free s false) 1 0 ≡ 1 = rw e in
    omega arith
