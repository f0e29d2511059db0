-- The slot that next takes, and what taking it means.
-- Assumes nothing.
use Rattle.std.specs.Prelude.{◌≡◌, ℕ, Some, None, Option}
use Rattle.slots.specs.Slots.{fired, coming}
use Rattle.logger.specs.State.{Log, slot_of, with_slot}
use Rattle.logger.specs.Calls.{next_answer, after_next}
use Rattle.logger.specs.Within.{Reached}

module _ {X : Type 0} (l : Log X) where
  pub record Taken (j : ℕ) : Type 0 where
    pub reached : Reached l.moment (slot_of l j)
    pub answer : coming l.moment j (slot_of l j) ≡ next_answer l
    pub after : with_slot l j (fired (slot_of l j)) ≡ after_next l (next_answer l)

  abbrev pub Chosen : Option ℕ → Type 0
  Chosen None = next_answer l ≡ None
  Chosen (Some j) = Taken j
