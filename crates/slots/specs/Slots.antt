-- One slot: what a call answers for it, what a firing makes of it, and how far off its due moment is.
-- Assumes nothing.
use Rattle.std.specs.Prelude.{ℕ, ◌+◌, ◌-◌, ◌^◌, min, true, false, cond, Some, None, Ok, Err, Option, Result, nat_lt}
use Rattle.fault.specs.declared.Fault.{Fault}
use Rattle.fault.specs.Table.{no_slot, slot_taken, slot_free, slot_errand, reference_ahead, slot_limits, foreign_ticket}
use Rattle.jobs.specs.declared.Slot.{Slot}
use Rattle.jobs.specs.declared.Slot.TheVariants.{Free, Standing, Waiting}
use Rattle.jobs.specs.declared.Job.{Job}
use Rattle.jobs.specs.declared.Kind.{Kind}
use Rattle.jobs.specs.declared.Kind.TheVariants.{Once}
use Rattle.jobs.specs.declared.Action.{Action}
use Rattle.jobs.specs.declared.Firing.{Firing}
use Rattle.jobs.specs.declared.Outcome.{Outcome}
use Rattle.jobs.specs.Jobs.{after_firing, taken}
use Rattle.slots.specs.Limits.{job_fits}

-- the job of an errand
abbrev pub once_job : Action → Job
once_job action = record { kind = Once; action = action }

-- a set-up of slot j at moment s answers the first due moment; its refusals, in their order
abbrev pub set_up_slot : ℕ → ℕ → Slot → ℕ → ℕ → Job → Result ℕ Fault
set_up_slot s j slot reference delay job =
    cond (nat_lt 31 j) (Err (no_slot j))
    (cond (taken slot) (Err (slot_taken j))
    (cond (nat_lt s reference) (Err (reference_ahead j))
    (cond (job_fits delay job) (Ok (reference + delay)) (Err (slot_limits j)))))

-- a call-off of slot j answers the due moment that is given up
abbrev pub call_off_standing : ℕ → Slot → Result ℕ Fault
call_off_standing j Free = Err (slot_free j)
call_off_standing j (Standing due job errand) = cond errand (Err (slot_errand j)) (Ok due)
call_off_standing j (Waiting due) = Err (slot_errand j)

abbrev pub call_off_slot : ℕ → Slot → Result ℕ Fault
call_off_slot j slot = cond (nat_lt 31 j) (Err (no_slot j)) (call_off_standing j slot)

-- a settle of the errand in slot j
abbrev pub settle_slot : ℕ → Slot → Result Outcome Fault
settle_slot j Free = Err (foreign_ticket j)
settle_slot j (Standing due job errand) = cond errand (Ok (record { due = due; fired = false })) (Err (foreign_ticket j))
settle_slot j (Waiting due) = Ok (record { due = due; fired = true })

abbrev pub stand_on : ℕ → Action → Option (ℕ × Kind) → Slot
stand_on due action None = Free
stand_on due action (Some left) = Standing (due + left.0) (record { kind = left.1; action = action }) false

-- a slot after its job fired: the period counts from the due moment, never from the moment of service
abbrev pub again : ℕ → Action → Kind → Slot
again due action kind = stand_on due action (after_firing kind)

abbrev pub fired : Slot → Slot
fired Free = Free
fired (Standing due job errand) = cond errand (Waiting due) (again due job.action job.kind)
fired (Waiting due) = Waiting due

-- a due moment past 64 bits stops at the last one that they hold
abbrev pub capped : Slot → Slot
capped Free = Free
capped (Standing due job errand) = Standing (min due (2 ^ 64 - 1)) job errand
capped (Waiting due) = Waiting due

-- the firing that slot j has to come, as next would answer it at moment s
abbrev pub coming : ℕ → ℕ → Slot → Option Firing
coming s j Free = None
coming s j (Standing due job errand) = Some (record { slot = j; due = due; at = s; action = job.action })
coming s j (Waiting due) = None

-- the ticks from moment s to the slot's due moment, none where that is reached
abbrev pub distance : ℕ → Slot → Option ℕ
distance s Free = None
distance s (Standing due job errand) = Some (due - s)
distance s (Waiting due) = None
