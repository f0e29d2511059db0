-- The words of a text take up one byte more than it has. Assumes nothing.
use Rattle.std.proofs.Common.{◌≡◌, ℕ, ◌+◌, List, [], ◌∷◌, length, sym, ap, ◌∙◌, arith, length-append}
use Rattle.std.specs.List.{join_with_byte}
use Rattle.std.proofs.lemmas.List.Sums.{sum_by-cons}
use Rattle.std.proofs.lemmas.List.Splits.{join_with_byte-slice_split}
use Rattle.words.specs.Words.{words_of}
use Rattle.words.proofs.Cuts.{cut_some}
use Rattle.line.specs.Line.{extent}

extent_joined : (w : List ℕ) (ws : List (List ℕ)) → extent (w ∷ ws) ≡ length (join_with_byte 32 (w ∷ ws)) + 1
extent_joined w [] = omega arith
extent_joined w (v ∷ vs) = simp length-append (omega (arith, sum_by-cons (λ u. length u + 1) w (v ∷ vs), extent_joined v vs))

pub extent_words : (bs : List ℕ) → extent (words_of bs) ≡ length bs + 1
extent_words bs =
    let some = cut_some 32 bs in
    ap extent some.2
    ∙ extent_joined some.0 some.1
    ∙ ap (λ xs. length xs + 1) (sym (ap (join_with_byte 32) some.2) ∙ join_with_byte-slice_split 32 bs)
