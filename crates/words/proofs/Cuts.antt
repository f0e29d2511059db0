-- The first piece of a text, the words behind it, and pieces that are joined again. Assumes nothing.
use Rattle.std.proofs.Common.{◌≡◌, ℕ, ◌+◌, ◌-◌, ◌<◌, ◌≤◌, Bool, false, not, eqb, List, [], ◌∷◌, length, take, drop, Option, Some, None, sym, refl, ap, ◌∙◌, ⊎_elim, arith, length-drop}
use denote.Ref.{Bor}
use Rattle.std.specs.List.{All, AllByRecursion, join_with_byte, position, position_or_len}
use Rattle.std.specs.Option.{unwrap_or}
use Rattle.std.specs.Slice.{IsGetRangeResult}
use Rattle.std.proofs.lemmas.List.{take_all}
use Rattle.std.proofs.lemmas.List.Splits.{slice_split_none, slice_split_first, slice_split_at, length-slice_split}
use Rattle.std.proofs.lemmas.List.Sums.{prefix_len-le-length, prefix_len_passes}
use Rattle.std.proofs.lemmas.Bool.{not-true, eq-eqb}
use Rattle.std.proofs.lemmas.Bool.Decides.{nat_tests}
use Rattle.words.specs.Cuts.{cut}
use Rattle.words.specs.Words.{words_of, words_left}

pub place_or_length : {A : Type 0} (p : A → Bool) (xs : List A) → unwrap_or (position p xs) (length xs) ≡ position_or_len p xs
place_or_length p xs = grind (arith, nat_tests, prefix_len-le-length (λ x. not (p x)) xs)

pub cut_last : (c : ℕ) (s : List ℕ) → length s ≤ position_or_len (λ b. eqb b c) s → cut c s ≡ s ∷ []
cut_last c s h =
    slice_split_none (λ b. eqb b c) s (λ k d in_s. not-true _ (prefix_len_passes (λ b. not (eqb b c)) s k d (omega arith)))

-- the words of a line are its pieces between spaces
pub words_cut : (bs : List ℕ) → words_of bs ≡ cut 32 bs
words_cut bs = refl

-- a word, and the words behind it
pub words_more : (line : List ℕ) (end : ℕ) (r : Option (Bor (List ℕ))) → end ≡ position_or_len (λ b. eqb b 32) line → IsGetRangeResult line (end + 1) (length line) r → words_of line ≡ take end line ∷ words_left (record { rest = r })
words_more line end None is got =
    let last : length line ≤ end = ⊎_elim (λ h. omega arith) (λ h. omega arith) got.0 in
    cut_last 32 line (omega arith) ∙ ap (λ w. w ∷ []) (sym (take_all end line last))
words_more line end (Some rest) is got =
    let whole : take (length line - (end + 1)) (drop (end + 1) line) ≡ drop (end + 1) line = take_all _ _ (simp length-drop (omega arith)) in
    slice_split_first (λ b. eqb b 32) line 0 (omega arith)
    ∙ ap (λ k. take k line ∷ cut 32 (drop (k + 1) line)) (sym is)
    ∙ ap (λ t. take end line ∷ cut 32 t) (sym (got.0.2 ∙ whole))

-- no byte is c
abbrev pub Lacks : ℕ → List ℕ → Type 0
Lacks c bs = All (λ b. eqb b c ≡ false) bs

-- pieces that lack the byte at which they are joined
pub cut_joined : (c : ℕ) (p : List ℕ) (ps : List (List ℕ)) → AllByRecursion (Lacks c) (p ∷ ps) → cut c (join_with_byte c (p ∷ ps)) ≡ p ∷ ps
cut_joined c p [] h = slice_split_none (λ b. eqb b c) p h.0
cut_joined c p (q ∷ qs) h =
    slice_split_at (λ b. eqb b c) p c (join_with_byte c (q ∷ qs)) h.0 (eq-eqb c c refl) ∙ ap (λ xs. p ∷ xs) (cut_joined c q qs h.1)

-- there is always a piece
pub cut_some : (c : ℕ) (bs : List ℕ) → (p : List ℕ) × (ps : List (List ℕ)) × (cut c bs ≡ p ∷ ps)
cut_some c bs = first (cut c bs) (omega (arith, length-slice_split (λ b. eqb b c) bs))
  where
    first : (ps : List (List ℕ)) → 0 < length ps → (q : List ℕ) × (qs : List (List ℕ)) × (ps ≡ q ∷ qs)
    first [] h = absurd (omega arith)
    first (p ∷ ps) h = (p, ps, refl)
