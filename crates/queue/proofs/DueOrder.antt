-- The order of due records: what less means, and that ties are the same record. Assumes nothing.
use Rattle.std.proofs.Common.{◌≡◌, true, Equal, arith}
use Rattle.std.specs.Ordering.{is_lt}
use Rattle.std.proofs.lemmas.Bool.Decides.{nat_tests}
use Rattle.queue.specs.declared.dues.Due.{Due}
use Rattle.queue.specs.Due.{due_compare, Earlier}
use Rattle.queue.specs.Order.{Strict}

module _ (x y : Due) where
  pub earlier_from_less : is_lt (due_compare x y) ≡ true → Earlier x y
  earlier_from_less h = grind (arith, nat_tests)

  pub less_from_earlier : Earlier x y → is_lt (due_compare x y) ≡ true
  less_from_earlier h = grind (arith, nat_tests)

same_due : (x y : Due) → x.moment ≡ y.moment → x.slot ≡ y.slot → x ≡ y
same_due x y p q = λ i. record { moment = p i; slot = q i }

moments : (x y : Due) → due_compare x y ≡ Equal → x.moment ≡ y.moment
moments x y h = grind (arith, nat_tests)

slots : (x y : Due) → due_compare x y ≡ Equal → x.slot ≡ y.slot
slots x y h = grind (arith, nat_tests)

pub due_strict : Strict due_compare
due_strict x y h = same_due x y (moments x y h) (slots x y h)
