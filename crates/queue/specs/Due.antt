-- The order of due records: by moment, and the lower slot on a tie.
-- Assumes nothing.
use Rattle.std.specs.Prelude.{◌≡◌, ◌<◌, ◌⊎◌}
use Rattle.std.specs.declared.cmp.Ordering.{Ordering}
use Rattle.std.specs.Cmp.{IsTotalOrder, nat_cmp_total, on_total, then_total}
use Rattle.std.specs.Ordering.{ordering_then, nat_cmp}
use Rattle.queue.specs.declared.dues.Due.{Due}

abbrev pub due_compare : Due → Due → Ordering
due_compare x y = ordering_then (nat_cmp x.moment y.moment) (nat_cmp x.slot y.slot)

-- what `cmp` may answer
abbrev pub due_orders : Due → Due → Ordering → Type 0
due_orders x y r = r ≡ due_compare x y

-- x comes before y
abbrev pub Earlier : Due → Due → Type 0
Earlier x y = (x.moment < y.moment) ⊎ ((x.moment ≡ y.moment) × (x.slot < y.slot))

-- a total order, as the queue asks for one
abbrev pub due_order : IsTotalOrder due_compare
due_order = then_total (on_total (λ x. x.moment) nat_cmp_total) (on_total (λ x. x.slot) nat_cmp_total)
