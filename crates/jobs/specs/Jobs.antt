-- What a firing makes of a job's kind, and which slots are free.
-- Assumes nothing.
use Rattle.std.specs.Prelude.{ℕ, ◌-◌, Bool, true, false, not, cond, Some, None, Option, nat_lt}
use Rattle.jobs.specs.declared.Kind.{Kind}
use Rattle.jobs.specs.declared.Kind.TheVariants.{Once, Every, Burst}
use Rattle.jobs.specs.declared.Slot.{Slot}
use Rattle.jobs.specs.declared.Slot.TheVariants.{Free, Standing, Waiting}

-- the ticks to the next due moment, and the kind that then stands; none where that was the last firing
abbrev pub after_firing : Kind → Option (ℕ × Kind)
after_firing Once = None
after_firing (Every period) = Some (period, Every period)
after_firing (Burst count period) = cond (nat_lt 1 count) (Some (period, Burst (count - 1) period)) None

abbrev pub taken : Slot → Bool
taken Free = false
taken (Standing due job errand) = true
taken (Waiting due) = true

abbrev pub is_free : Slot → Bool
is_free slot = not (taken slot)
