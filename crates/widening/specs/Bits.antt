-- The setting of a widening: a number of bits outside its limits is refused.
-- Assumes nothing.
use Rattle.std.specs.Prelude.{ℕ, cond, ◌&&◌, Ok, Err, Result, nat_le}
use Rattle.fault.specs.declared.Fault.{Fault}
use Rattle.fault.specs.Table.{bad_setting}

-- a number of bits from 1 to 32
abbrev pub bits_made : ℕ → Result ℕ Fault
bits_made count = cond (nat_le 1 count && nat_le count 32) (Ok count) (Err bad_setting)
