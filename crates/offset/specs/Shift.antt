-- The setting of an offset: a distance outside its limits is refused.
-- Assumes nothing.
use Rattle.std.specs.Prelude.{ℕ, ◌^◌, cond, Ok, Err, Result, nat_lt}
use Rattle.fault.specs.declared.Fault.{Fault}
use Rattle.fault.specs.Table.{bad_setting}

-- a distance below 2^48
abbrev pub shift_made : ℕ → Result ℕ Fault
shift_made by = cond (nat_lt by (2 ^ 48)) (Ok by) (Err bad_setting)
