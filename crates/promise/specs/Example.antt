-- Two short runs that the promise speaks of, so that it is not empty: one set-up, reached by a serve as held, and reported.
-- Assumes nothing.
use Rattle.std.specs.Prelude.{◌≡◌, ℕ, true, false, List, [], ◌∷◌, replicate, Some, None, Ok, Err}
use Rattle.fault.specs.Table.{no_slot, foreign_ticket, stray_sample}
use Rattle.up.specs.Up.{up_meaning}
use Rattle.up.specs.declared.up.Word.{Word}
use Rattle.jobs.specs.declared.Slot.TheVariants.{Free}
use Rattle.jobs.specs.declared.Job.{Job}
use Rattle.jobs.specs.declared.Kind.TheVariants.{Once, Every}
use Rattle.jobs.specs.declared.Action.TheVariants.{Read, Mark}
use Rattle.jobs.specs.declared.Firing.{Firing}
use Rattle.logger.specs.State.{Log}
use Rattle.promise.specs.Runs.{Event, serve, set_up, call_off, settle, next, hold, Run, Emptied}
use Rattle.promise.specs.Words.{brought, shared, DueMoment, AsHeld, SetUpAt, ReachedBy, ReportedAt}
use Rattle.promise.specs.Promise.{starts_alike}

abbrev word : ℕ → Word
word n = record { 0 = n }

-- an 8-bit counter that stands at 250, and a 16-bit counter that stands at 7
abbrev pub left_log : Log Word
left_log = record { number = 1; moment = 1000; slots = replicate 32 Free; stack = up_meaning 8 250 11 }

abbrev pub right_log : Log Word
right_log = record { number = 2; moment = 1000; slots = replicate 32 Free; stack = up_meaning 16 7 12 }

-- a mark every 10 ticks in slot 2
abbrev pub marks : Job
marks = record { kind = Every 10; action = Mark }

abbrev pub marked : ℕ → ℕ → Firing
marked due at = record { slot = 2; due = due; at = at; action = Mark }

abbrev pub left_run : List (Event Word)
left_run =
    set_up 2 1000 10 marks (Ok 1010) ∷ next None
    ∷ hold 10 ∷ serve 10 (word 4) (Ok 1010) ∷ next (Some (marked 1010 1010)) ∷ next None
    ∷ serve 15 (word 19) (Ok 1025) ∷ next (Some (marked 1020 1025)) ∷ next None
    ∷ call_off 2 (Ok 1030) ∷ []

-- the same of slot 2, among another job, a stray sample, another logger's ticket and a slot that is not there
abbrev pub right_run : List (Event Word)
right_run =
    set_up 1 1000 20 (record { kind = Once; action = Read 3 }) (Ok 1020) ∷ next None
    ∷ set_up 2 1000 10 marks (Ok 1010) ∷ next None
    ∷ serve 0 (word 65536) (Err (stray_sample 12)) ∷ serve 10 (word 17) (Ok 1010) ∷ next (Some (marked 1010 1010)) ∷ next None
    ∷ settle (record { number = 1; slot = 2; spent = false }) (Err (foreign_ticket 2)) ∷ call_off 40 (Err (no_slot 40))
    ∷ serve 15 (word 32) (Ok 1025)
    ∷ next (Some (record { slot = 1; due = 1020; at = 1025; action = Read 3 })) ∷ next (Some (marked 1020 1025)) ∷ next None
    ∷ call_off 2 (Ok 1030) ∷ []

pub record Occurs : Type 0 where
  pub left_end : Log Word
  pub right_end : Log Word
  pub left : Run left_log left_run left_end
  pub right : Run right_log right_run right_end
  pub left_emptied : Emptied true left_run
  pub right_emptied : Emptied true right_run
  pub alike : starts_alike left_log right_log ≡ true
  pub shares : brought (shared 1 2) left_run ≡ brought (shared 2 2) right_run
  -- the due moment 1010 of what is set up at 0 is reached at 3, as held, and reported at 4, at that moment
  pub stands : SetUpAt 2 left_run 0 marks 1010
  pub due : DueMoment (Every 10) 1010 1010
  pub reached : ReachedBy 2 left_run 1000 0 1010 3
  pub as_held : AsHeld left_run 3 10
  pub reports : ReportedAt 2 left_run 0 1010 Mark 4 1010

-- shut, so that a caller's search does not look into the runs
unfoldable pub Occurring : Type 0
Occurring = Occurs
