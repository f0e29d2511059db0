-- The appointment that a layer keeps, read at the width of its clock.
-- Assumes nothing.
use Rattle.std.specs.Prelude.{ℕ, ◌^◌, cond, nat_lt}
use Rattle.clock.specs.declared.appointment.Appointment.{Appointment}
use Rattle.clock.specs.declared.appointment.Appointment.TheVariants.{Idle}
use Rattle.clock.specs.Appointment.{held}

-- what is kept, if a clock of width w can have it: the width lies in the alarm below, of which a layer's type says nothing
abbrev pub within : ℕ → Appointment → Appointment
within w a = cond (nat_lt (held a) (2 ^ w)) a Idle
