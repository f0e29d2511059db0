-- Offset: the clock below with its reading set forward, and with it the point of an appointment.
-- Assumes nothing.
use Rattle.std.specs.Prelude.{ℕ}
use Rattle.clock.specs.Wrap.{plus}
use Rattle.clock.specs.Meaning.{Meaning}
use Rattle.clock.specs.declared.appointment.Appointment.{Appointment}
use Rattle.clock.specs.declared.appointment.Appointment.TheVariants.{Idle, Standing, Due}

-- m is the clock below
abbrev pub offset_meaning : {X : Type 0} → Meaning X → ℕ → Meaning X
offset_meaning m by = record {
  width = m.width;
  reading = plus m.width m.reading by;
  reach = m.reach;
  shown = m.shown;
  measure = m.measure;
  tag = m.tag;
}

-- the appointment below, as the layer has it: ticks are the same, a point is set forward as the reading is
abbrev pub shifted : ℕ → ℕ → Appointment → Appointment
shifted w by Idle = Idle
shifted w by (Standing left) = Standing left
shifted w by (Due point) = Due (plus w point by)
