-- The text of a line, and which lines may be written.
-- Assumes nothing.
use Rattle.std.specs.Prelude.{◌≡◌, ℕ, ◌<◌, Bool, true, false, List, [], ◌∷◌, codes, decimal, slice_index_or}
use Rattle.std.specs.List.{join_with_byte}
use Rattle.slots.specs.Limits.{job_fits}
use Rattle.jobs.specs.declared.Kind.{Kind}
use Rattle.jobs.specs.declared.Kind.TheVariants.{Once, Every, Burst}
use Rattle.jobs.specs.declared.Action.{Action}
use Rattle.jobs.specs.declared.Action.TheVariants.{Read, Mark}
use Rattle.line.specs.declared.line.Line.{Line}

-- the words of a line, from the left, and then more
abbrev pub action_words : Action → List (List ℕ) → List (List ℕ)
action_words (Read channel) more = codes "read" ∷ (decimal channel ∷ more)
action_words Mark more = codes "mark" ∷ more

abbrev pub kind_words : Kind → ℕ → List (List ℕ) → List (List ℕ)
kind_words Once delay more = codes "once" ∷ (decimal delay ∷ more)
kind_words (Every period) delay more = codes "every" ∷ (decimal period ∷ (decimal delay ∷ more))
kind_words (Burst count period) delay more = codes "burst" ∷ (decimal count ∷ (decimal period ∷ (decimal delay ∷ more)))

abbrev pub line_words : Line → List (List ℕ)
line_words l = decimal l.slot ∷ kind_words l.job.kind l.delay (action_words l.job.action [])

-- one space between two words
abbrev pub line_text : Line → List ℕ
line_text l = join_with_byte 32 (line_words l)

-- a line for a slot that is free, with a job within the limits of a set-up
abbrev pub Lawful : List Bool → Line → Type 0
Lawful free l = (l.slot < 32) × (slice_index_or free l.slot false ≡ true) × (job_fits l.delay l.job ≡ true)
