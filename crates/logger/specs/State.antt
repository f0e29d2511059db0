-- The state of a logger as its contracts speak of it: number, moment, slot table, and what the stack of clocks below means.
-- Assumes nothing.
use Rattle.std.specs.Prelude.{ℕ, List, slice_index_or, slice_set}
use Rattle.clock.specs.Meaning.{Meaning}
use Rattle.jobs.specs.declared.Slot.{Slot}
use Rattle.jobs.specs.declared.Slot.TheVariants.{Free}
use Rattle.logger.specs.declared.logger.Logger.{Logger}

-- X is the kind of sample of the device at the bottom
pub record Log (X : Type 0) : Type 0 where
  pub number : ℕ
  pub moment : ℕ
  pub slots : List Slot
  pub stack : Meaning X

abbrev pub view : {C X : Type 0} → (C → Meaning X) → Logger C → Log X
view meaning l = record { number = l.number; moment = l.moment.ticks; slots = l.table; stack = meaning l.alarm }

-- a slot past the table counts as free
abbrev pub slot_of : {X : Type 0} → Log X → ℕ → Slot
slot_of l j = slice_index_or l.slots j Free

abbrev pub with_slot : {X : Type 0} → Log X → ℕ → Slot → Log X
with_slot l j slot = record { number = l.number; moment = l.moment; slots = slice_set l.slots j slot; stack = l.stack }
