-- The worked numbers as one table. What a case says is an equation on the definitions that contracts cite.
-- Assumes nothing.
use Rattle.std.specs.Prelude.{◌≡◌, ℕ, zero, suc, ◌<◌, false, List, [], ◌∷◌, ◌++◌, length, fold, ℤ, pos, negsuc, Some, None, Ok, Err, codes, Option, Result}
use Rattle.std.specs.List.{flat_map}
use Rattle.fault.specs.declared.Fault.{Fault}
use Rattle.fault.specs.Table.{half_turn}
use Rattle.clock.specs.declared.appointment.Appointment.{Appointment}
use Rattle.clock.specs.declared.appointment.Appointment.TheVariants.{Idle, Standing, Due}
use Rattle.up.specs.declared.up.Word.{Word}
use Rattle.down.specs.declared.down.Count.{Count}
use Rattle.clock.specs.Meaning.{Meaning, advanced}
use Rattle.clock.specs.Appointment.{setting}
use Rattle.clock.specs.Hold.{hold_of}
use Rattle.up.specs.Up.{up_meaning}
use Rattle.down.specs.Down.{down_meaning}
use Rattle.widening.specs.Widening.{widening_meaning}
use Rattle.rate.specs.Rate.{rate_meaning}
use Rattle.clock.specs.Lead.{lead_of}
use Rattle.listing.specs.Listing.{listing_text}
use Rattle.jobs.specs.declared.Job.{Job}
use Rattle.jobs.specs.declared.Kind.{Kind}
use Rattle.jobs.specs.declared.Kind.TheVariants.{Once, Every}
use Rattle.jobs.specs.declared.Action.TheVariants.{Mark}
use Rattle.jobs.specs.declared.Firing.{Firing}
use Rattle.logger.specs.State.{Log, slot_of}
use Rattle.slots.specs.Slots.{set_up_slot}
use Rattle.logger.specs.Calls.{served, after_set_up, next_answer, after_next}
use Rattle.logger.specs.Making.{fresh}

-- an up-counter of this width and reading, and a down-counter of this reload and last count
abbrev pub up : ℕ → ℕ → Meaning Word
up w reading = up_meaning w reading 0

abbrev pub down : ℕ → ℕ → Meaning Count
down reload last = down_meaning reload last 0 0

-- a fresh layer with the rate q/p
abbrev pub at_rate : {X : Type 0} → ℕ → ℕ → Meaning X → Meaning X
at_rate q p below = rate_meaning below q p 0 0

-- a set-up whose reference is the moment that it is made at
pub record Entry : Type 0 where
  pub slot : ℕ
  pub delay : ℕ
  pub job : Job

abbrev pub enter : {X : Type 0} → Log X → Entry → Log X
enter l e = after_set_up l e.slot e.job false (set_up_slot l.moment e.slot (slot_of l e.slot) l.moment e.delay e.job)

-- what next answers, so many times in a row
abbrev pub nexts : {X : Type 0} → ℕ → Log X → List (Option Firing)
nexts zero l = []
nexts (suc n) l = next_answer l ∷ nexts n (after_next l (next_answer l))

abbrev pub marks : ℕ → ℕ → Kind → Entry
marks slot delay kind = record { slot = slot; delay = delay; job = record { kind = kind; action = Mark } }

abbrev pub marked : ℕ → ℕ → ℕ → Option Firing
marked slot due at = Some (record { slot = slot; due = due; at = at; action = Mark })

pub data Case : Type 0 where
  -- up-counter: width, reading, true ticks, the sample shown then
  up_shows : ℕ → ℕ → ℕ → ℕ → Case
  -- width, reading, a sample that is never shown
  up_stray : ℕ → ℕ → ℕ → Case
  -- down-counter: reload, last count, true ticks, the sample shown then
  down_shows : ℕ → ℕ → ℕ → ℕ → Case
  down_stray : ℕ → ℕ → ℕ → Case
  -- an up-counter of width and reading, widened by bits: after these true ticks the reading is
  widened : ℕ → ℕ → ℕ → ℕ → ℕ → Case
  -- width, reading, reference, delay: the appointment that a set leaves
  set_to : ℕ → ℕ → ℕ → ℕ → Appointment → Case
  -- rate q/p over a counter: true ticks, and what they measure
  measures : ℕ → ℕ → ℕ → ℕ → Case
  -- the same with a second rate above the first
  measures_twice : ℕ → ℕ → ℕ → ℕ → ℕ → ℕ → Case
  -- rate q/p over an up-counter of this width, with this much left: the hold
  holds : ℕ → ℕ → ℕ → ℕ → ℕ → Case
  -- width, and the lead of one reading over another
  leads : ℕ → ℕ → ℕ → Result ℤ Fault → Case
  -- a fresh logger over an up-counter: start, set-ups there, true ticks to the one sample, and what next answers from then on
  fires : ℕ → List Entry → ℕ → List (Option Firing) → Case
  -- a script, and its listing
  lists : List ℕ → List ℕ → Case

abbrev pub True : Case → Type 0
True (up_shows w reading d sample) = (up w reading).shown [] d ≡ record { 0 = sample }
True (up_stray w reading sample) = (d : ℕ) → d < (up w reading).reach → record { 0 = sample } ≡ (up w reading).shown [] d → ⊥
True (down_shows reload last d sample) = (down reload last).shown [] d ≡ record { 0 = sample }
True (down_stray reload last sample) = (d : ℕ) → d < (down reload last).reach → record { 0 = sample } ≡ (down reload last).shown [] d → ⊥
True (widened w reading bits d after) = (advanced (widening_meaning (up w reading) bits 0) d).reading ≡ after
True (set_to w reading reference delay a) = setting w reading reference delay Idle ≡ Ok a
True (measures q p d n) = (at_rate q p (up 8 0)).measure d ≡ n
True (measures_twice q p q' p' d n) = (at_rate q' p' (at_rate q p (up 8 0))).measure d ≡ n
True (holds w q p left n) = hold_of (at_rate q p (up w 0)) (Standing left) ≡ n
True (leads w a b r) = lead_of w a b ≡ r
True (fires start es d answers) = nexts (length answers) (served (fold enter (fresh 0 start (up 8 0)) es) d) ≡ answers
True (lists script text) = listing_text script ≡ text

-- lines of text, byte 10 after each
abbrev pub text_lines : List (List ℕ) → List ℕ
text_lines = flat_map (λ l. l ++ (10 ∷ []))

abbrev pub cases : List Case
cases =
    up_shows 8 250 10 4 ∷
    up_stray 8 250 256 ∷
    widened 8 250 8 0 250 ∷
    widened 8 250 8 10 260 ∷
    down_shows 99 30 31 99 ∷
    down_stray 99 30 100 ∷
    set_to 8 10 250 20 (Standing 4) ∷
    set_to 8 10 250 16 (Due 10) ∷
    measures 125 4096 32 0 ∷
    measures 125 4096 33 1 ∷
    holds 8 125 4096 1 33 ∷
    holds 8 125 4096 10 255 ∷
    measures_twice 1 2 2 3 3 0 ∷
    leads 8 5 250 (Ok (pos 11)) ∷
    leads 8 250 5 (Ok (negsuc 10)) ∷
    leads 8 130 2 (Err half_turn) ∷
    fires 1000 (marks 2 10 (Every 10) ∷ marks 1 20 Once ∷ []) 25
    (marked 2 1010 1025 ∷ marked 1 1020 1025 ∷ marked 2 1020 1025 ∷ None ∷ []) ∷
    lists (text_lines (codes "2 burst 3 10 0 read 1" ∷ codes "1 once 10 mark" ∷ []))
    (text_lines (codes "0 2" ∷ codes "10 1" ∷ codes "10 2" ∷ codes "20 2" ∷ [])) ∷
    []
