-- The up-counter of w bits: its sample is the raw reading, and it gains one tick with each true tick.
-- Assumes nothing.
use Rattle.std.specs.Prelude.{ℕ, ◌+◌, ◌^◌, ◌<◌, cond, ◌&&◌, Ok, Err, Result, OkIff, nat_le, nat_lt}
use Rattle.fault.specs.declared.Fault.{Fault}
use Rattle.fault.specs.Table.{stray_sample, bad_device}
use Rattle.clock.specs.Wrap.{plus}
use Rattle.clock.specs.Meaning.{Meaning, total}
use Rattle.clock.specs.declared.appointment.Appointment.{Appointment}
use Rattle.clock.specs.declared.appointment.Appointment.TheVariants.{Idle}
use Rattle.up.specs.declared.up.Word.{Word}

-- a number of at most 32 bits is a raw sample
abbrev pub IsWord : {E : Type 0} → ℕ → Result Word E → Type 0
IsWord n r = OkIff r (n < 2 ^ 32) (record { 0 = n })

abbrev pub up_meaning : ℕ → ℕ → ℕ → Meaning Word
up_meaning w reading tag = record {
  width = w;
  reading = reading;
  reach = 2 ^ w;
  shown = λ ds d. record { 0 = plus w reading (total ds + d) };
  measure = λ d. d;
  tag = tag;
}

-- a width from 8 to 32, then a first sample below 2^w
abbrev pub up_made : ℕ → ℕ → ℕ → Result (Meaning Word × Appointment) Fault
up_made w first tag =
    cond (nat_le 8 w && nat_le w 32)
    (cond (nat_lt first (2 ^ w)) (Ok (up_meaning w first tag, Idle)) (Err (stray_sample tag)))
    (Err (bad_device tag))
