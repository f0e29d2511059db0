-- Jobs within their limits: one slot of a table, a slot that is written, a slot that fired; and its next due moment within 64 bits. Assumes nothing.
use Rattle.std.proofs.Common.{◌≡◌, ℕ, zero, suc, ◌-◌, ◌^◌, ◌<◌, true, false, List, [], ◌∷◌, get_or, set, refl, arith}
use Rattle.std.proofs.lemmas.Grind.{common_steps}
use Rattle.jobs.specs.declared.Slot.{Slot}
use Rattle.jobs.specs.declared.Slot.TheVariants.{Free, Standing, Waiting}
use Rattle.jobs.specs.declared.Kind.{Kind}
use Rattle.jobs.specs.declared.Kind.TheVariants.{Once, Every, Burst}
use Rattle.jobs.specs.declared.Action.{Action}
use Rattle.slots.specs.Limits.{kind_fits}
use Rattle.slots.specs.Slots.{again, fired, capped}
use Rattle.logger.specs.Within.{slot_fits, table_fits, Reached}

pub fits_at : (slots : List Slot) (j : ℕ) → table_fits slots ≡ true → slot_fits (get_or slots j Free) ≡ true
fits_at [] j h = refl
fits_at (x ∷ xs) zero h = grind (arith, common_steps)
fits_at (x ∷ xs) (suc j) h = grind (arith, common_steps, fits_at xs j)

pub fits_set : (slots : List Slot) (j : ℕ) (slot : Slot) → table_fits slots ≡ true → slot_fits slot ≡ true → table_fits (set slots j slot) ≡ true
fits_set [] j slot h k = refl
fits_set (x ∷ xs) zero slot h k = grind (arith, common_steps)
fits_set (x ∷ xs) (suc j) slot h k = grind (arith, common_steps, fits_set xs j slot)

-- one firing fewer is within the limits too
fewer : (count period : ℕ) → kind_fits (Burst count period) ≡ true → 1 < count → kind_fits (Burst (count - 1) period) ≡ true
fewer count period h more = grind (arith, common_steps)

fits_again : (due : ℕ) (action : Action) (kind : Kind) → kind_fits kind ≡ true → slot_fits (again due action kind) ≡ true
fits_again due action Once h = refl
fits_again due action (Every period) h = h
fits_again due action (Burst count period) h = grind (arith, common_steps, fewer)

pub fits_fired : (slot : Slot) → slot_fits slot ≡ true → slot_fits (fired slot) ≡ true
fits_fired Free h = refl
fits_fired (Standing due job true) h = refl
fits_fired (Standing due job false) h = fits_again due job.action job.kind h
fits_fired (Waiting due) h = refl

-- ---- sums within 64 bits

low_again : (due : ℕ) (action : Action) (kind : Kind) → due < 2 ^ 62 → kind_fits kind ≡ true → capped (again due action kind) ≡ again due action kind
low_again due action Once low h = refl
low_again due action (Every period) low h = grind (arith, common_steps)
low_again due action (Burst count period) low h = grind (arith, common_steps)

-- a slot that is due is far from the last number of 64 bits
pub low_fired : (s : ℕ) (slot : Slot) → s < 2 ^ 62 → slot_fits slot ≡ true → Reached s slot → capped (fired slot) ≡ fired slot
low_fired s Free low h r = refl
low_fired s (Standing due job true) low h r = refl
low_fired s (Standing due job false) low h r = low_again due job.action job.kind (omega arith) h
low_fired s (Waiting due) low h r = refl
