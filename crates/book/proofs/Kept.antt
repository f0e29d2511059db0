-- A book's `add`, case by case: the row is full, or it has place. Assumes nothing.
use Rattle.std.proofs.Common.{◌≡◌, ◌+◌, ◌<◌, ◌≤◌, [], ◌∷◌, ◌++◌, length, Ok, Err}
use Rattle.std.proofs.lemmas.Bool.{cond-true, cond-false, lt-ltb, le-ltb}
use Rattle.fault.specs.Table.{no_place}
use Rattle.book.specs.declared.books.Book.{Book}
use Rattle.book.specs.Book.{places, filled, kept, add_answer, kept_after, filled_after}

module _ {T : Type 0} (b : Book T) (full : length (places b) ≤ filled b) where
  pub answer_when_full : add_answer b ≡ Err (no_place (length (places b)))
  answer_when_full = cond-false _ _ _ (le-ltb (filled b) (length (places b)) full)

  pub kept_when_full : (x : T) → kept_after b x ≡ kept b
  kept_when_full x = cond-false _ _ _ (le-ltb (filled b) (length (places b)) full)

  pub filled_when_full : filled_after b ≡ filled b
  filled_when_full = cond-false _ _ _ (le-ltb (filled b) (length (places b)) full)

module _ {T : Type 0} (b : Book T) (free : filled b < length (places b)) where
  pub answer_when_free : add_answer b ≡ Ok tt
  answer_when_free = cond-true _ _ _ (lt-ltb (filled b) (length (places b)) free)

  pub kept_when_free : (x : T) → kept_after b x ≡ kept b ++ x ∷ []
  kept_when_free x = cond-true _ _ _ (lt-ltb (filled b) (length (places b)) free)

  pub filled_when_free : filled_after b ≡ filled b + 1
  filled_when_free = cond-true _ _ _ (lt-ltb (filled b) (length (places b)) free)
