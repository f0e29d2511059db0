-- What a maker answers, told by a view of the thing made.
-- Assumes nothing.
use Rattle.std.specs.Prelude.{Ok, Err, Result}

abbrev pub seen : {C V E : Type 0} → (C → V) → Result C E → Result V E
seen view (Ok made) = Ok (view made)
seen view (Err why) = Err why
