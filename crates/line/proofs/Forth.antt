-- The words of a line that keeps the limits are read as that line. Assumes nothing.
use Rattle.std.proofs.Common.{◌≡◌, ℕ, ◌+◌, ◌-◌, ◌^◌, ◌<◌, ◌≤◌, Bool, true, List, [], ◌∷◌, length, Ok, codes, decimal, Result, refl, ap, ◌∙◌, arith}
use Rattle.std.specs.Option.{ok_or}
use Rattle.std.proofs.lemmas.Bool.{and_from, leb-true, le-leb, le-ltb, cond-true, cond-false}
use Rattle.fault.specs.declared.Cause.TheVariants.{Grammar}
use Rattle.fault.specs.declared.Fault.{Fault}
use Rattle.words.specs.Number.{number_of}
use Rattle.slots.specs.Limits.{kind_fits, action_fits}
use Rattle.jobs.specs.declared.Kind.{Kind}
use Rattle.jobs.specs.declared.Kind.TheVariants.{Once, Every, Burst}
use Rattle.jobs.specs.declared.Action.{Action}
use Rattle.jobs.specs.declared.Action.TheVariants.{Read, Mark}
use Rattle.line.specs.declared.line.Line.{Line}
use Rattle.line.specs.Line.{◌>>=◌, Placed, Rest, fault_at, number_at, limited, slot_at, first_of, next, number, delay, period, once, every, burst, timing, reads, action, ending, line_of}
use Rattle.line.specs.Text.{action_words, kind_words, line_words, Lawful}
use Rattle.line.proofs.Binds.{bind_ok}
use Rattle.line.proofs.Limits.{period_within, burst_within, job_within}
use Rattle.line.proofs.Numbers.{number_decimal}

-- the first word, and what is left after it
abbrev word_at : Rest → List ℕ → Placed
word_at r w = record { line = r.line; byte = r.byte; text = w }

abbrev pub after : Rest → List ℕ → List (List ℕ) → Rest
after r w ws = record { line = r.line; byte = r.byte + (length w + 1); end = r.end; words = ws }

next_forth : (r : Rest) (w : List ℕ) (ws : List (List ℕ)) → r.words ≡ w ∷ ws → next r ≡ Ok (word_at r w, after r w ws)
next_forth r w ws e = ap (first_of r) e

number_forth : (r : Rest) (w : List ℕ) (n : ℕ) → n < 2 ^ 64 → w ≡ decimal n → number_at (word_at r w) ≡ Ok n
number_forth r w n h e = ap (λ o. ok_or o (fault_at Grammar (word_at r w))) (ap number_of e ∙ number_decimal n h)

numbered : (least most : ℕ) (r : Rest) (n : ℕ) (ws : List (List ℕ)) → most < 2 ^ 64 → least ≤ n → n ≤ most → r.words ≡ decimal n ∷ ws → number least most r ≡ Ok (n, after r (decimal n) ws)
numbered least most r n ws small low high e =
    bind_ok _ (next_forth r (decimal n) ws e)
    ∙ bind_ok _ (bind_ok _ (number_forth r (decimal n) n (omega arith) refl) ∙ cond-true _ _ _ (and_from _ _ (le-leb least n low) (le-leb n most high)))

-- some state that has these words left
abbrev Left : {A : Type 0} → Result (A × Rest) Fault → A → List (List ℕ) → Type 0
Left m a ws = (r : Rest) × (m ≡ Ok (a, r)) × (r.words ≡ ws)

delayed : (r : Rest) (d : ℕ) (ws : List (List ℕ)) → d < 2 ^ 40 → r.words ≡ decimal d ∷ ws → delay r ≡ Ok (d, after r (decimal d) ws)
delayed r d ws h e = numbered 0 (2 ^ 40 - 1) r d ws (omega arith) (omega arith) (omega arith) e

timed : (k : Kind) (d : ℕ) (ws : List (List ℕ)) (r : Rest) → kind_fits k ≡ true → d < 2 ^ 40 → r.words ≡ kind_words k d ws → Left (timing r) (k, d) ws
timed Once d ws r fits h e =
    let r₁ = after r (codes "once") (decimal d ∷ ws) in
    (after r₁ (decimal d) ws, bind_ok _ (next_forth r (codes "once") _ e) ∙ bind_ok _ (delayed r₁ d ws h refl), refl)
timed (Every p) d ws r fits h e =
    let b = period_within p fits in
    let r₁ = after r (codes "every") (decimal p ∷ (decimal d ∷ ws)) in
    let r₂ = after r₁ (decimal p) (decimal d ∷ ws) in (
      after r₂ (decimal d) ws,
      bind_ok _ (next_forth r (codes "every") _ e)
          ∙ bind_ok _ (numbered 1 (2 ^ 40 - 1) r₁ p _ (omega arith) b.0 b.1 refl)
          ∙ bind_ok _ (delayed r₂ d ws h refl),
      refl,
    )
timed (Burst n p) d ws r fits h e =
    let f = burst_within n p fits in
    let b = period_within p f.2 in
    let r₁ = after r (codes "burst") (decimal n ∷ (decimal p ∷ (decimal d ∷ ws))) in
    let r₂ = after r₁ (decimal n) (decimal p ∷ (decimal d ∷ ws)) in
    let r₃ = after r₂ (decimal p) (decimal d ∷ ws) in (
      after r₃ (decimal d) ws,
      bind_ok _ (next_forth r (codes "burst") _ e)
          ∙ bind_ok _ (numbered 1 65535 r₁ n _ (omega arith) f.0 f.1 refl)
          ∙ bind_ok _ (numbered 1 (2 ^ 40 - 1) r₂ p _ (omega arith) b.0 b.1 refl)
          ∙ bind_ok _ (delayed r₃ d ws h refl),
      refl,
    )

acted : (a : Action) (ws : List (List ℕ)) (r : Rest) → action_fits a ≡ true → r.words ≡ action_words a ws → Left (action r) a ws
acted (Read c) ws r fits e =
    let r₁ = after r (codes "read") (decimal c ∷ ws) in (
      after r₁ (decimal c) ws,
      bind_ok _ (next_forth r (codes "read") _ e) ∙ bind_ok _ (numbered 0 15 r₁ c ws (omega arith) (omega arith) (leb-true c 15 fits) refl),
      refl,
    )
acted Mark ws r fits e = (after r (codes "mark") ws, bind_ok _ (next_forth r (codes "mark") ws e), refl)

pub line_forth : (free : List Bool) (r : Rest) (l : Line) → Lawful free l → r.words ≡ line_words l → line_of free r ≡ Ok l
line_forth free r l law e =
    let slot = l.slot in
    let more = kind_words l.job.kind l.delay (action_words l.job.action []) in
    let below : slot < 32 = law.0 in
    let j = job_within l.delay l.job law.2 in
    let r₁ = after r (decimal slot) more in
    let t = timed l.job.kind l.delay (action_words l.job.action []) r₁ j.1 j.0 refl in
    let a = acted l.job.action [] t.0 j.2 t.2 in
    bind_ok _ (next_forth r (decimal slot) more e)
    ∙ bind_ok _ (bind_ok _ (number_forth r (decimal slot) slot (omega arith) refl) ∙ cond-false _ _ _ (le-ltb 31 slot (omega arith)) ∙ cond-true _ _ _ law.1)
    ∙ bind_ok _ t.1
    ∙ bind_ok _ a.1
    ∙ bind_ok _ (ap (Rattle.line.specs.Line.none_of a.0) a.2)
