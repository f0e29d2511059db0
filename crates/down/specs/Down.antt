-- The down-counter: it counts from its reload down to 0 and starts again at the reload; its sample is the raw count.
-- Assumes nothing.
use Rattle.std.specs.Prelude.{ℕ, ◌+◌, ◌-◌, ◌%◌, ◌^◌, ◌<◌, cond, ◌&&◌, Ok, Err, Result, OkIff, nat_le, nat_lt}
use Rattle.fault.specs.declared.Fault.{Fault}
use Rattle.fault.specs.Table.{stray_sample, bad_device}
use Rattle.clock.specs.Meaning.{Meaning, total}
use Rattle.clock.specs.declared.appointment.Appointment.{Appointment}
use Rattle.clock.specs.declared.appointment.Appointment.TheVariants.{Idle}
use Rattle.down.specs.declared.down.Count.{Count}

-- a number of at most 32 bits is a raw sample
abbrev pub IsCount : {E : Type 0} → ℕ → Result Count E → Type 0
IsCount n r = OkIff r (n < 2 ^ 32) (record { 0 = n })

-- (a - s) mod n, for any s
abbrev pub back : ℕ → ℕ → ℕ → ℕ
back n a s = (a + (n - s % n)) % n

-- the ticks in which the count falls from one to another: past 0 it starts again at the reload
abbrev pub fallen : ℕ → ℕ → ℕ → ℕ
fallen reload from to = cond (nat_lt from to) (from + (reload + 1) - to) (from - to)

-- last is the count of the last accepted sample; a round of the counter is one tick longer than its reload
abbrev pub down_meaning : ℕ → ℕ → ℕ → ℕ → Meaning Count
down_meaning reload last reading tag = record {
  width = 32;
  reading = reading;
  reach = reload + 1;
  shown = λ ds d. record { 0 = back (reload + 1) last (total ds + d) };
  measure = λ d. d;
  tag = tag;
}

-- a counter that is made: the reload is judged first, then the sample; its reading starts at 0
abbrev pub down_made : ℕ → ℕ → ℕ → Result (Meaning Count × Appointment) Fault
down_made reload first tag =
    cond (nat_le 1 reload && nat_lt reload (2 ^ 24))
    (cond (nat_le first reload) (Ok (down_meaning reload first 0 tag, Idle)) (Err (stray_sample tag)))
    (Err (bad_device tag))
