-- The listing of a script: a line for each of its first firings, or the fault's text.
-- Assumes nothing.
use Rattle.std.specs.Prelude.{ℕ, cond, List, [], ◌∷◌, ◌++◌, length, drop, Ok, Err, decimal, Result, nat_le, nat_lt}
use Rattle.fault.specs.declared.Cause.TheVariants.{NoPlace}
use Rattle.fault.specs.declared.Fault.{Fault}
use Rattle.fault.specs.Table.{in_script, no_place}
use Rattle.fault.specs.Text.{fault_text}
use Rattle.queue.specs.declared.dues.Due.{Due}
use Rattle.forecasting.specs.Forecast.{forecast_of}

-- due moment, space, slot, and byte 10
abbrev pub row_text : ℕ → ℕ → List ℕ
row_text moment slot = decimal moment ++ (32 ∷ (decimal slot ++ (10 ∷ [])))

abbrev pub rows_text : List ℕ → List ℕ → List ℕ
rows_text [] slots = []
rows_text (m ∷ moments) [] = []
rows_text (m ∷ moments) (s ∷ slots) = row_text m s ++ rows_text moments slots

abbrev pub firings_text : List Due → List ℕ
firings_text [] = []
firings_text (d ∷ ds) = row_text d.moment d.slot ++ firings_text ds

-- the first n firings from moment 0; a script may have 4096 bytes
abbrev pub listed : ℕ → List ℕ → Result (List Due) Fault
listed n script = cond (nat_lt 4096 (length script)) (Err (in_script NoPlace 0 4096)) (forecast_of n 0 script)

abbrev pub result_text : Result (List Due) Fault → List ℕ
result_text (Ok ds) = firings_text ds
result_text (Err fault) = fault_text fault ++ (10 ∷ [])

-- no more than 20 lines
abbrev pub listing_text : List ℕ → List ℕ
listing_text script = result_text (listed 20 script)

-- a text copied into a buffer, which is left alone where it is too short
abbrev pub copy_answer : List ℕ → List ℕ → Result ℕ Fault
copy_answer text buffer = cond (nat_le (length text) (length buffer)) (Ok (length text)) (Err (no_place (length buffer)))

abbrev pub copied : List ℕ → List ℕ → List ℕ
copied text buffer = cond (nat_le (length text) (length buffer)) (text ++ drop (length text) buffer) buffer
