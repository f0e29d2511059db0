use Rattle.std.proofs.Common.{ℕ, ◌^◌, ◌<◌, IfOk, Ok, Err, Result, arith}
use Rattle.fault.specs.declared.Fault.{Fault}
use Rattle.clock.specs.Meaning.{Meaning, Lawful}
use Rattle.clock.specs.Calls.{Taken}
use Rattle.clock.specs.declared.appointment.Appointment.{Appointment}
use Rattle.clock.proofs.Waiting.{measure_le}
use Rattle.logger.proofs.calls.taken.Goals as goal

-- a clock gains no more ticks than pass, and fewer than the reach pass
few : {X : Type 0} (m : Meaning X) (a : Appointment) (sample : X) (r : Result ℕ Fault) (m' : Meaning X) (a' : Appointment) → Lawful m
    → Taken m a sample r m' a' → IfOk r (λ n. n < 2 ^ 32)
few m a sample (Ok gained) m' a' law t = omega (arith, t.gain, t.within, measure_le law.counts t.ticks, law.reach_high)
few m a sample (Err fault) m' a' law t = tt

pub returns-clause-few : goal.returns-clause-few
returns-clause-few g c =
    let s = c.args.alarm.now in
    few (g.A.Clock.meaning s) (g.A.Alarm.appointment s) _ _ _ _ (g.met.A.Clock.lawful s) c.take.ensures
