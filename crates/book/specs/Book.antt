-- A book: the records it keeps, its row, and what adding a record answers and leaves.
-- Assumes nothing.
use Rattle.std.specs.Prelude.{ℕ, ◌+◌, Bool, cond, List, [], ◌∷◌, ◌++◌, length, take, Ok, Err, Result, nat_lt}
use Rattle.fault.specs.declared.Fault.{Fault}
use Rattle.fault.specs.Table.{no_place}
use Rattle.book.specs.declared.books.Book.{Book}

-- the whole row
abbrev pub places : {T : Type 0} → Book T → List T
places b = b.row.now

-- how many of its places hold a record: the first ones
abbrev pub filled : {T : Type 0} → Book T → ℕ
filled b = b.count

-- the records, in the order in which they came
abbrev pub kept : {T : Type 0} → Book T → List T
kept b = take (filled b) (places b)

abbrev pub has_place : {T : Type 0} → Book T → Bool
has_place b = nat_lt (filled b) (length (places b))

-- a full row refuses, and names its length
abbrev pub add_answer : {T : Type 0} → Book T → Result (Unit {0}) Fault
add_answer b = cond (has_place b) (Ok tt) (Err (no_place (length (places b))))

abbrev pub kept_after : {T : Type 0} → Book T → T → List T
kept_after b x = cond (has_place b) (kept b ++ x ∷ []) (kept b)

abbrev pub filled_after : {T : Type 0} → Book T → ℕ
filled_after b = cond (has_place b) (filled b + 1) (filled b)
