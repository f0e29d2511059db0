-- Which slot of a table comes due first, and how far off the nearest is.
-- Assumes nothing.
use Rattle.std.specs.Prelude.{ℕ, suc, min, cond, List, [], ◌∷◌, Some, None, Option, nat_le}
use Rattle.jobs.specs.declared.Slot.{Slot}
use Rattle.jobs.specs.declared.Firing.{Firing}
use Rattle.slots.specs.Slots.{coming, distance}

-- the earlier of two firings, the first one on a tie
abbrev pub sooner : Option Firing → Option Firing → Option Firing
sooner None g = g
sooner (Some f) None = Some f
sooner (Some f) (Some g) = cond (nat_le f.due g.due) (Some f) (Some g)

-- of the slots, which are numbered from j on, the firing with the smallest due moment, the lower slot on a tie
abbrev pub soonest : ℕ → ℕ → List Slot → Option Firing
soonest s j [] = None
soonest s j (slot ∷ slots) = sooner (coming s j slot) (soonest s (suc j) slots)

-- the smaller of two distances
abbrev pub nearer : Option ℕ → Option ℕ → Option ℕ
nearer None n = n
nearer (Some m) None = Some m
nearer (Some m) (Some n) = Some (min m n)

-- the smallest distance of the standing slots
abbrev pub nearest : ℕ → List Slot → Option ℕ
nearest s [] = None
nearest s (slot ∷ slots) = nearer (distance s slot) (nearest s slots)
