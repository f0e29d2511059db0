-- The promise about two loggers that start alike and share the moments read and one slot's calls.
-- Assumes nothing.
use Rattle.std.specs.Prelude.{◌≡◌, ℕ, suc, ◌+◌, Bool, true, not, ◌&&◌, List, [], ◌∷◌, take, Some, Ok, ◌==◌}
use Rattle.clock.specs.Meaning.{Meaning}
use Rattle.jobs.specs.declared.Slot.{Slot}
use Rattle.jobs.specs.declared.Job.{Job}
use Rattle.jobs.specs.declared.Firing.{Firing}
use Rattle.logger.specs.State.{Log}
use Rattle.jobs.specs.Jobs.{taken}
use Rattle.promise.specs.Runs.{Event, serve, next, Run, Emptied}
use Rattle.promise.specs.Words.{brought, shared, seen, DueMoment, true_ticks, At, FirstEmptying, AsHeld, SetUpAt, NoEnd, ReachedBy, ReportedAt}

abbrev pub all_free : List Slot → Bool
all_free [] = true
all_free (slot ∷ slots) = not (taken slot) && all_free slots

-- every slot of both is free, and the moments are equal
abbrev pub starts_alike : {X Y : Type 0} → Log X → Log Y → Bool
starts_alike l k = all_free l.slots && (all_free k.slots && l.moment == k.moment)

-- of one run: it starts at moment start, its events are es, and j is the slot
module _ {X : Type 0} (start j : ℕ) (es : List (Event X)) where
  -- every due moment reached is reported in the first emptying after
  abbrev pub Complete : Type 0
  Complete =
      (i p first u : ℕ) (job : Job) → SetUpAt j es i job first → DueMoment job.kind first u → ReachedBy j es start i u p
      → (q : ℕ) × (s : ℕ) × ReportedAt j es i u job.action q s × FirstEmptying es p q

  -- and no more than once
  abbrev pub Unrepeated : Type 0
  Unrepeated =
      (i first u q s q' s' : ℕ) (job : Job) → SetUpAt j es i job first
      → ReportedAt j es i u job.action q s → ReportedAt j es i u job.action q' s' → q ≡ q'

  -- every report is of a due moment reached, with no call-off or settle of the slot since its set-up
  abbrev pub Sound : Type 0
  Sound =
      (q : ℕ) (f : Firing) → At es q (next (Some f)) → f.slot ≡ j
      → (i : ℕ) × (p : ℕ) × (first : ℕ) × (job : Job) × SetUpAt j es i job first × DueMoment job.kind first f.due
      × ReachedBy j es start i f.due p × FirstEmptying es p q
      × ReportedAt j es i f.due job.action q f.at × NoEnd j es i q

  -- a due moment reached by a serve no later than hold last asked is reported at that very moment
  abbrev pub Timely : Type 0
  Timely =
      (i p first u d t : ℕ) (sample : X) (job : Job) → SetUpAt j es i job first → DueMoment job.kind first u → ReachedBy j es start i u p
      → At es p (serve d sample (Ok t)) → AsHeld es p d
      → (q : ℕ) × ReportedAt j es i u job.action q u × FirstEmptying es p q

  -- a moment read is the start and what the stack, as it was at the start, measures of all true ticks up to it
  abbrev pub Measured : Meaning X → Type 0
  Measured stack =
      (i d t : ℕ) (sample : X) → At es i (serve d sample (Ok t)) → t ≡ start + stack.measure (true_ticks (take (suc i) es))

  pub record Kept (stack : Meaning X) : Type 0 where
    pub complete : Complete
    pub unrepeated : Unrepeated
    pub sound : Sound
    pub timely : Timely
    pub measured : Measured stack

-- any two runs that share the moments read and the calls of slot j, each emptied by next before every other call and at the end
abbrev pub Alike : {X Y : Type 0} → Log X → Log Y → Type 0
Alike {X} {Y} l k =
    (j : ℕ) (es : List (Event X)) (fs : List (Event Y)) (l' : Log X) (k' : Log Y)
    → Run l es l' → Run k fs k' → Emptied true es → Emptied true fs
    → brought (shared l.number j) es ≡ brought (shared k.number j) fs
    → (brought (seen l.number j) es ≡ brought (seen k.number j) fs)
    × Kept l.moment j es l.stack × Kept k.moment j fs k.stack
