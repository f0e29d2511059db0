use Rattle.std.proofs.Common.{◌≡◌, drop}
use Rattle.table.specs.Table.{nearer, nearest}
use Rattle.table.proofs.rows.shortest.Given as goal

-- what is left of the table, with the smallest so far, gives the smallest of all
abbrev pub invariant-loop-slot : goal.invariant-loop-slot
invariant-loop-slot l = nearer l.least (nearest l.moment (drop l.slot-index l.slots)) ≡ nearest l.moment l.slots
