-- The limits of a job, and of the delay that it is set up with.
-- Assumes nothing.
use Rattle.std.specs.Prelude.{ℕ, ◌^◌, Bool, true, ◌&&◌, nat_le, nat_lt}
use Rattle.jobs.specs.declared.Job.{Job}
use Rattle.jobs.specs.declared.Kind.{Kind}
use Rattle.jobs.specs.declared.Kind.TheVariants.{Once, Every, Burst}
use Rattle.jobs.specs.declared.Action.{Action}
use Rattle.jobs.specs.declared.Action.TheVariants.{Read, Mark}

abbrev pub period_fits : ℕ → Bool
period_fits period = nat_le 1 period && nat_lt period (2 ^ 40)

abbrev pub kind_fits : Kind → Bool
kind_fits Once = true
kind_fits (Every period) = period_fits period
kind_fits (Burst count period) = (nat_le 1 count && nat_le count 65535) && period_fits period

abbrev pub action_fits : Action → Bool
action_fits (Read channel) = nat_le channel 15
action_fits Mark = true

abbrev pub job_fits : ℕ → Job → Bool
job_fits delay job = nat_lt delay (2 ^ 40) && (kind_fits job.kind && action_fits job.action)
