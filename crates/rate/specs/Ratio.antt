-- The setting of a rate: a ratio outside its limits is refused.
-- Assumes nothing.
use Rattle.std.specs.Prelude.{ℕ, cond, ◌&&◌, Ok, Err, Result, nat_le}
use Rattle.fault.specs.declared.Fault.{Fault}
use Rattle.fault.specs.Table.{bad_setting}

-- gains of the clock above, and ticks of the clock below: 1 ≤ gains ≤ ticks ≤ 4096
abbrev pub ratio_made : ℕ → ℕ → Result (ℕ × ℕ) Fault
ratio_made gains ticks = cond (nat_le 1 gains && (nat_le gains ticks && nat_le ticks 4096)) (Ok (gains, ticks)) (Err bad_setting)
