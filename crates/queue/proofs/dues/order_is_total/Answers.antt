use Rattle.std.proofs.Common.{refl}
use Rattle.queue.specs.Due.{due_order}
use Rattle.queue.proofs.DueOrder.{due_strict}
use Rattle.queue.proofs.dues.order_is_total.Goals as goal

pub returns : goal.returns
returns c = record { answer = refl; derived = λ x y. refl; total = due_order; orders = λ x y r h. h; strict = due_strict }
