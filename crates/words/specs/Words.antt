-- The words of a line: what stands between single spaces. Two spaces in a row have an empty word between them.
-- Assumes nothing.
use Rattle.std.specs.Prelude.{ℕ, List, []}
use Rattle.std.specs.Option.{option_map, unwrap_or}
use Rattle.words.specs.declared.Words.{Words}
use Rattle.words.specs.Cuts.{cut}

abbrev pub words_of : List ℕ → List (List ℕ)
words_of line = cut 32 line

-- the words still to be read
abbrev pub words_left : Words → List (List ℕ)
words_left w = unwrap_or (option_map (λ line. words_of line.now) w.rest) []
