-- What the maker of a moment answers: a moment is below 2^62.
-- Assumes nothing.
use Rattle.std.specs.Prelude.{ℕ, ◌^◌, cond, Ok, Err, Result, nat_lt}
use Rattle.fault.specs.declared.Fault.{Fault}
use Rattle.fault.specs.Table.{moment_limit}
use Rattle.slots.specs.declared.moment.Moment.{Moment}

abbrev pub moment_made : ℕ → Result ℕ Fault
moment_made ticks = cond (nat_lt ticks (2 ^ 62)) (Ok ticks) (Err moment_limit)

-- an answer by the ticks of its moment
abbrev pub by_ticks : Result Moment Fault → Result ℕ Fault
by_ticks (Ok moment) = Ok moment.ticks
by_ticks (Err fault) = Err fault
