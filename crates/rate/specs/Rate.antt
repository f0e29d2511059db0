-- Rate: a clock that gains so many ticks for so many of the clock below, and carries what is left of a division on.
-- Assumes nothing.
use Rattle.std.specs.Prelude.{ℕ, ◌+◌, ◌-◌, ◌*◌, ◌/◌, ◌%◌, ◌^◌}
use Rattle.std.specs.Int.{div_ceil}
use Rattle.clock.specs.Meaning.{Meaning}
use Rattle.clock.specs.declared.appointment.Appointment.{Appointment}
use Rattle.clock.specs.declared.appointment.Appointment.TheVariants.{Idle, Standing, Due}

-- m is the clock below, gains/ticks the rate; count is how many ticks were gained, of which the reading has the low bits
abbrev pub rate_meaning : {X : Type 0} → Meaning X → ℕ → ℕ → ℕ → ℕ → Meaning X
rate_meaning m gains ticks remainder count = record {
  width = m.width;
  reading = count % 2 ^ m.width;
  reach = m.reach;
  shown = m.shown;
  measure = λ d. (remainder + gains * m.measure d) / ticks;
  tag = m.tag;
}

-- how many ticks of the clock below bring this many
abbrev pub needed : ℕ → ℕ → ℕ → ℕ → ℕ
needed gains ticks remainder left = div_ceil (ticks * left - remainder) gains

-- an appointment, with what is left in ticks of the clock below
abbrev pub needed_for : ℕ → ℕ → ℕ → Appointment → Appointment
needed_for gains ticks remainder Idle = Idle
needed_for gains ticks remainder (Standing left) = Standing (needed gains ticks remainder left)
needed_for gains ticks remainder (Due point) = Due point
