-- The promise about two loggers, from its parts. Assumes nothing.
use Rattle.std.proofs.Common.{◌≡◌, ℕ, Bool, true, false, ◌&&◌, T, eqb, List, [], ◌∷◌, length, replicate, refl, ap, ◌∙◌}
use Rattle.std.proofs.lemmas.Bool.{and_parts, eqb-true}
use Rattle.clock.specs.Meaning.{Counts}
use Rattle.std.specs.List.{list_all}
use Rattle.jobs.specs.Jobs.{is_free}
use Rattle.jobs.specs.declared.Slot.{Slot}
use Rattle.jobs.specs.declared.Slot.TheVariants.{Free, Standing, Waiting}
use Rattle.logger.specs.State.{Log}
use Rattle.promise.specs.Runs.{Event, Run, Emptied}
use Rattle.promise.specs.Promise.{all_free, starts_alike, Kept, Alike}
use Rattle.promise.proofs.Courses.{course, free_start}
use Rattle.promise.proofs.Completeness.{complete, unrepeated}
use Rattle.promise.proofs.Soundness.{sound}
use Rattle.promise.proofs.Measuring.{measured}
use Rattle.promise.proofs.Timing.{timely}
use Rattle.promise.proofs.Sameness.{same_seen}

-- a table of free slots
pub each_free : (slots : List Slot) → list_all is_free slots ≡ all_free slots
each_free [] = refl
each_free (slot ∷ slots) = ap (λ b. is_free slot && b) (each_free slots)

pub free_table : (slots : List Slot) → all_free slots ≡ true → slots ≡ replicate (length slots) Free
free_table [] e = refl
free_table (Free ∷ slots) e = ap (λ (xs : List Slot). Free ∷ xs) (free_table slots e)
free_table (Standing due job b ∷ slots) e = cc
free_table (Waiting due ∷ slots) e = cc

pub kept : {X : Type 0} (j : ℕ) (l l' : Log X) (es : List (Event X)) → Counts l.stack.measure → l.slots ≡ replicate 32 Free
    → Run l es l' → Emptied true es → Kept l.moment j es l.stack
kept j l l' es law slots r em =
    let c = course j l l' es slots r em in
    record {
      complete = complete c;
      unrepeated = unrepeated c;
      sound = sound c;
      timely = timely c law;
      measured = measured c law;
    }

pub alike : {X Y : Type 0} (l : Log X) (k : Log Y) → Counts l.stack.measure → Counts k.stack.measure
    → l.slots ≡ replicate 32 Free → k.slots ≡ replicate 32 Free → l.moment ≡ k.moment → Alike l k
alike l k law law' slots slots' moment j es fs l' k' r r' em em' shared = (
  same_seen j l l' k k' es fs (ap (λ (xs : List Slot). length xs) slots) (ap (λ (xs : List Slot). length xs) slots')
      (free_start j l.slots slots) (free_start j k.slots slots') moment r r' em em' shared,
  kept j l l' es law slots r em,
  kept j k k' fs law' slots' r' em',
)

pub all_free_table : (slots : List Slot) → length slots ≡ 32 → all_free slots ≡ true → slots ≡ replicate 32 Free
all_free_table slots size e = free_table slots e ∙ ap (λ n. replicate n Free) size

is_true : (b : Bool) → T b → b ≡ true
is_true true t = refl
is_true false t = absurd t

-- two loggers that start alike keep the promise
pub promised : {X Y : Type 0} (l : Log X) (k : Log Y) → Counts l.stack.measure → Counts k.stack.measure
    → length l.slots ≡ 32 → length k.slots ≡ 32 → T (starts_alike l k) → Alike l k
promised l k law law' size size' t =
    let both = and_parts (all_free l.slots) (all_free k.slots && eqb l.moment k.moment) (is_true (starts_alike l k) t) in
    let rest = and_parts (all_free k.slots) (eqb l.moment k.moment) both.1 in
    alike l k law law' (all_free_table l.slots size both.0) (all_free_table k.slots size' rest.0) (eqb-true l.moment k.moment rest.1)
