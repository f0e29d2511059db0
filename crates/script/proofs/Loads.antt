-- Setting up one line of a script that is being loaded. Assumes nothing.
use Rattle.std.proofs.Common.{◌≡◌, ℕ, zero, suc, ◌+◌, ◌<◌, Bool, true, false, List, [], ◌∷◌, get_or, set, Ok, Result, sym, refl, ap, ◌∙◌, subst, arith}
use Rattle.std.specs.List.{AllByRecursion}
use Rattle.std.proofs.lemmas.List.{map-set}
use Rattle.std.proofs.lemmas.Bool.{cond-true, cond-false, le-ltb, not-true}
use Rattle.fault.specs.declared.Fault.{Fault}
use Rattle.jobs.specs.Jobs.{taken, is_free}
use Rattle.slots.specs.Slots.{set_up_slot}
use Rattle.logger.specs.State.{Log, slot_of, with_slot}
use Rattle.logger.specs.Calls.{after_set_up, SetUp}
use Rattle.jobs.specs.declared.Slot.{Slot}
use Rattle.jobs.specs.declared.Slot.TheVariants.{Free, Standing}
use Rattle.line.specs.declared.line.Line.{Line}
use Rattle.script.specs.declared.lines.Script.{Script}
use Rattle.script.specs.Lines.{lines_of, read_as}
use Rattle.script.specs.Load.{free_slots, lines_for, set_up_all}
use Rattle.script.specs.Script.{script_of}
use Rattle.line.specs.Text.{Lawful}
use Rattle.script.specs.Text.{Different}
use Rattle.script.proofs.Laws.{lawful_later}

free_at : (slots : List Slot) (j : ℕ) → get_or (free_slots slots) j false ≡ true → taken (get_or slots j Free) ≡ false
free_at [] j e = refl
free_at (s ∷ ss) zero e = not-true (taken s) e
free_at (s ∷ ss) (suc j) e = free_at ss j e

-- what a lawful line's set-up answers, and what it leaves
pub set_up_lawful : {X : Type 0} (l : Log X) (line : Line) → Lawful (free_slots l.slots) line → set_up_slot l.moment line.slot (slot_of l line.slot) l.moment line.delay line.job ≡ Ok (l.moment + line.delay)
set_up_lawful l line h =
    let below : line.slot < 32 = h.0 in
    cond-false _ _ _ (le-ltb 31 line.slot (omega arith))
    ∙ cond-false _ _ _ (free_at l.slots line.slot h.1)
    ∙ cond-false _ _ _ (le-ltb l.moment l.moment (omega arith))
    ∙ cond-true _ _ _ h.2

-- what a script was read as, for a log with these slots free
pub read_for : {X : Type 0} (l : Log X) (free : List Bool) (text : List ℕ) (r : Result Script Fault) (s : Script) → free ≡ free_slots l.slots → read_as r ≡ script_of free text → r ≡ Ok s → lines_for l text ≡ Ok (lines_of s)
read_for l free text r s slots answer ok = ap (λ f. script_of f text) (sym slots) ∙ sym answer ∙ ap read_as ok

-- the lines still to be set up in a log, to make the whole of it
pub record Ready {X : Type 0} (whole l : Log X) (ls : List Line) : Type 0 where
  pub same : whole ≡ set_up_all l ls
  pub lawful : AllByRecursion (Lawful (free_slots l.slots)) ls
  pub different : Different ls

pub ready_more : {X : Type 0} (whole l l' : Log X) (line : Line) (ls : List Line) (r : Result ℕ Fault)
    → SetUp l line.slot l.moment line.delay line.job r l'
    → Ready whole l (line ∷ ls) → Ready whole l' ls
ready_more whole l l' line ls r done h =
    let stood = with_slot l line.slot (Standing (l.moment + line.delay) line.job false) in
    let ok : r ≡ Ok (l.moment + line.delay) = done.answer ∙ set_up_lawful l line h.lawful.0 in
    let is : l' ≡ stood = done.after ∙ ap (after_set_up l line.slot line.job false) ok in
    let frees : free_slots stood.slots ≡ set (free_slots l.slots) line.slot false = map-set is_free l.slots line.slot (Standing (l.moment + line.delay) line.job false) in
    let F : List Bool → Type 0 = λ free. AllByRecursion (Lawful free) ls in
    let R : Log _ → Type 0 = λ m. Ready whole m ls in
    subst R (sym is) (record {
      same = h.same;
      lawful = subst F (sym frees) (lawful_later (free_slots l.slots) line.slot ls h.lawful.1 h.different.0);
      different = h.different.1;
    })
