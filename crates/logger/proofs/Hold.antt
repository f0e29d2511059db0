-- The law of hold: the distance that it waits for is the smallest of the standing slots. Assumes nothing.
use Rattle.std.proofs.Common.{◌≡◌, ℕ, ◌<◌, Bool, true, false, cond, eqb, ◌⊎◌, Some, None, Option, sym, refl, subst, inl, inr, arith}
use Rattle.std.proofs.lemmas.Grind.{common_steps}
use Rattle.clock.specs.Hold.{wait_for, Waits}
use Rattle.clock.proofs.Waiting.{waits}
use Rattle.table.specs.Table.{nearest}
use Rattle.table.proofs.Nearest.{Answer, answered}
use Rattle.logger.specs.State.{Log}
use Rattle.logger.specs.Calls.{held_for, hold_answer, HoldLaw}

pub hold_law : {X : Type 0} (l : Log X) → HoldLaw l (hold_answer l)
hold_law l = by (nearest l.moment l.slots) (answered l.moment l.slots)
  where
    wait : (left : ℕ) (b : Bool) → eqb left 0 ≡ b
        → ((left ≡ 0) × (cond b 0 (wait_for l.stack left) ≡ 0)) ⊎ ((0 < left) × Waits l.stack left (cond b 0 (wait_for l.stack left)))
    wait left true t = grind (arith, common_steps)
    wait left false t = grind (arith, common_steps, waits l.stack left)

    by : (o : Option ℕ) → Answer l.moment l.slots o → HoldLaw l (held_for l.stack o)
    by None a = inl (a, refl)
    by (Some left) a = inr (left, record { place = a.place; stands = a.stands; least = a.least }, wait left (eqb left 0) refl)

pub law_of_answer : {X : Type 0} (l : Log X) (n : ℕ) → n ≡ hold_answer l → HoldLaw l n
law_of_answer l n e = subst (HoldLaw l) (sym e) (hold_law l)
