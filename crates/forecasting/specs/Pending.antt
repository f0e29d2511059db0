-- Jobs that wait for their next firing: their order, what is left of one after a firing, and the firings of several in order.
-- Assumes nothing.
use Rattle.std.specs.Prelude.{ℕ, zero, suc, ◌+◌, ◌^◌, ◌<◌, List, [], ◌∷◌, Some, None, Option}
use Rattle.std.specs.declared.cmp.Ordering.{Ordering}
use Rattle.std.specs.Cmp.{IsTotalOrder, on_total}
use Rattle.std.specs.Option.{option_map}
use Rattle.queue.specs.Due.{due_compare, due_order}
use Rattle.queue.specs.Order.{inserted}
use Rattle.queue.specs.declared.dues.Due.{Due}
use Rattle.jobs.specs.declared.Kind.{Kind}
use Rattle.jobs.specs.declared.Kind.TheVariants.{Once, Every, Burst}
use Rattle.jobs.specs.Jobs.{after_firing}
use Rattle.line.specs.declared.line.Line.{Line}
use Rattle.forecasting.specs.declared.pending.Pending.{Pending}

-- the order of the due records
abbrev pub pending_compare : Pending → Pending → Ordering
pending_compare x y = due_compare x.due y.due

abbrev pub pending_order : IsTotalOrder pending_compare
pending_order = on_total (λ x. x.due) due_order

-- a line's job as it waits for its first firing, where the script is loaded at this moment
abbrev pub pending : ℕ → Line → Pending
pending start l = record { due = record { moment = start + l.delay; slot = l.slot }; kind = l.job.kind }

-- the same slot, some ticks later
abbrev pub later_by : ℕ → Due → Due
later_by ticks due = record { moment = due.moment + ticks; slot = due.slot }

-- what still waits after a firing, of which `after_firing` tells
abbrev pub goes_on : Due → ℕ × Kind → Pending
goes_on due next = record { due = later_by next.0 due; kind = next.1 }

abbrev pub again : Due → Kind → Option Pending
again due kind = option_map (goes_on due) (after_firing kind)

abbrev pub put_back : Option Pending → List Pending → List Pending
put_back None waiting = waiting
put_back (Some p) waiting = inserted pending_compare p waiting

-- after the first of those that wait has fired
abbrev pub fired_first : Pending → List Pending → List Pending
fired_first p waiting = put_back (again p.due p.kind) waiting

-- the first n firings of jobs that wait, the next of which stands first
abbrev pub firings : ℕ → List Pending → List Due
firings zero waiting = []
firings (suc n) [] = []
firings (suc n) (p ∷ waiting) = p.due ∷ firings n (fired_first p waiting)

-- what one step answers and leaves
abbrev pub first_due : List Pending → Option Due
first_due [] = None
first_due (p ∷ waiting) = Some p.due

abbrev pub after_first : List Pending → List Pending
after_first [] = []
after_first (p ∷ waiting) = fired_first p waiting

-- how many ticks lie between two firings
abbrev pub spacing : Kind → ℕ
spacing Once = 0
spacing (Every period) = period
spacing (Burst count period) = period

-- due before b, and again in fewer than 2^40 ticks
abbrev pub Calm : ℕ → Pending → Type 0
Calm b p = (p.due.moment < b) × (spacing p.kind < 2 ^ 40)
