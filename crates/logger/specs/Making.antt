-- What the maker of a logger gives.
-- Assumes nothing.
use Rattle.std.specs.Prelude.{ℕ, replicate}
use Rattle.clock.specs.Meaning.{Meaning}
use Rattle.jobs.specs.declared.Slot.TheVariants.{Free}
use Rattle.logger.specs.State.{Log}

-- a new logger: its moment is the start, and each of its 32 slots is free
abbrev pub fresh : {X : Type 0} → ℕ → ℕ → Meaning X → Log X
fresh number start stack = record { number = number; moment = start; slots = replicate 32 Free; stack = stack }
