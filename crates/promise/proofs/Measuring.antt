-- How the stack's measure goes on with accepted serves. Assumes nothing.
use Rattle.std.proofs.Common.{◌≡◌, ℕ, zero, suc, ◌+◌, ◌-◌, ◌≤◌, List, [], ◌∷◌, length, take, Some, None, Ok, Option, sym, refl, ap, ◌∙◌, subst, add-zero, arith}
use Rattle.std.proofs.lemmas.Option.{slice_get_within}
use Rattle.clock.specs.Meaning.{Meaning, Counts}
use Rattle.logger.specs.State.{Log}
use Rattle.promise.specs.Runs.{Event, serve}
use Rattle.promise.specs.Words.{Reading, reading, passed, true_ticks, At}
use Rattle.promise.specs.Promise.{Measured}
use Rattle.promise.proofs.Frames.{framed, stack_by, gained}
use Rattle.promise.proofs.Courses.{there, Course}

module _ {g : ℕ → ℕ} (c : Counts g) where
  -- a measure never falls
  pub mono : (d x : ℕ) → g d ≤ g (d + x)
  mono d zero = subst (λ n. g d ≤ g n) (sym (add-zero d)) (omega arith)
  mono d (suc x) =
      let one : d + suc x ≡ (d + x) + 1 = omega arith in
      subst (λ n. g d ≤ g n) (sym one) (omega (arith, mono d x, c.grows (d + x)))

  -- what is measured from d on counts again
  pub counts_on : (d : ℕ) → Counts (λ x. g (d + x) - g d)
  counts_on d = record {
    nought = ap (λ n. g n - g d) (add-zero d) ∙ omega arith;
    grows = λ x. let e : g (d + (x + 1)) ≡ g ((d + x) + 1) = ap g (omega arith) in omega (arith, c.grows (d + x));
    slow = λ x. let e : g (d + (x + 1)) ≡ g ((d + x) + 1) = ap g (omega arith) in omega (arith, c.slow (d + x), mono d x);
  }

ticks_more : {X : Type 0} (es : List (Event X)) (n : ℕ) (e : Event X) → At es n e → true_ticks (take (suc n) es) ≡ true_ticks (take n es) + passed (reading e)
ticks_more [] n e here = cc
ticks_more {X} (x ∷ es) zero e here = let is : x ≡ e = cc in ap (λ (y : Event X). passed (reading y) + 0) is ∙ omega arith
ticks_more (x ∷ es) (suc n) e here = ap (λ k. passed (reading x) + k) (ticks_more es n e here) ∙ omega arith

module _ {X : Type 0} {j : ℕ} {l : Log X} {es : List (Event X)} (c : Course j l es) (law : Counts l.stack.measure) where
  abbrev ticks_to : ℕ → ℕ
  ticks_to n = true_ticks (take n es)

  -- the moment, and what the stack measures from now on, by the stack as it was at the start
  pub record Gone (n : ℕ) : Type 0 where
    pub moment : (c.state n).moment ≡ l.moment + l.stack.measure (ticks_to n)
    pub measure : (x : ℕ) → (c.state n).stack.measure x ≡ l.stack.measure (ticks_to n + x) - l.stack.measure (ticks_to n)

  gone_first : Gone 0
  gone_first =
      let g = l.stack.measure in
      record {
        moment = ap (λ (y : Log X). y.moment) c.start ∙ omega (arith, law.nought);
        measure = λ x.
            ap (λ (y : Log X). y.stack.measure x) c.start ∙ omega (arith, law.nought, ap g (native.Mathlib.Nat.zero-add x));
      }

  gone_next : (n : ℕ) (e : Event X) → At es n e → (r : Option Reading) → reading e ≡ r → Gone n
      → (c.state (suc n)).moment ≡ (c.state n).moment + gained (c.state n).stack r
      → (c.state (suc n)).stack ≡ stack_by (c.state n).stack r → Gone (suc n)
  gone_next n e here None rd before gain stack =
      let more : ticks_to (suc n) ≡ ticks_to n = ticks_more es n e here ∙ ap (λ (r : Option Reading). ticks_to n + passed r) rd ∙ omega arith in
      record {
        moment = (let same_moment : (c.state (suc n)).moment ≡ (c.state n).moment = omega arith in same_moment) ∙ before.moment ∙ ap (λ k. l.moment + l.stack.measure k) (sym more);
        measure = λ x.
            ap (λ (m : Meaning X). m.measure x) stack ∙ before.measure x
            ∙ ap (λ k. l.stack.measure (k + x) - l.stack.measure k) (sym more);
      }
  gone_next n e here (Some y) rd before gain stack =
      let g = l.stack.measure in
      let t = ticks_to n in
      let d = y.ticks in
      let more : ticks_to (suc n) ≡ t + d = ticks_more es n e here ∙ ap (λ (r : Option Reading). t + passed r) rd in
      record {
        moment =
            (let m : (c.state n).stack.measure d ≡ g (t + d) - g t = before.measure d in
            let now_at : (c.state (suc n)).moment ≡ l.moment + g (t + d) = omega (arith, before.moment, mono law t d) in now_at)
            ∙ ap (λ k. l.moment + g k) (sym more);
        measure = λ x.
            ap (λ (m : Meaning X). m.measure x) stack
            ∙ (let a : (c.state n).stack.measure (d + x) ≡ g (t + (d + x)) - g t = before.measure (d + x) in
            let b : (c.state n).stack.measure d ≡ g (t + d) - g t = before.measure d in
            let e : g (t + (d + x)) ≡ g ((t + d) + x) = ap g (omega arith) in
            let goal : (c.state n).stack.measure (d + x) - (c.state n).stack.measure d ≡ g ((t + d) + x) - g (t + d) =
            omega (arith, mono law t d, mono law (t + d) x) in goal)
            ∙ ap (λ k. g (k + x) - g k) (sym more);
      }

  pub gone : (n : ℕ) → n ≤ length es → Gone n
  gone zero near = gone_first
  gone (suc n) near =
      let e = there es n (omega arith) in
      let f = framed (c.state n) (c.state (suc n)) e.0 (c.step n e.0 e.1) in
      gone_next n e.0 e.1 (reading e.0) refl (gone n (omega arith)) f.gain f.stack

  pub measured : Measured l.moment j es l.stack
  measured i d t sample here =
      let f = framed (c.state i) (c.state (suc i)) (serve d sample (Ok t)) (c.step i (serve d sample (Ok t)) here) in
      sym f.moment ∙ (gone (suc i) (slice_get_within es i (serve d sample (Ok t)) here)).moment

  counts_by : (m m' : Meaning X) (r : Option Reading) → m' ≡ stack_by m r → Counts m.measure → Counts m'.measure
  counts_by m m' None e k = subst (λ (y : Meaning X). Counts y.measure) (sym e) k
  counts_by m m' (Some r) e k = subst (λ (y : Meaning X). Counts y.measure) (sym e) (counts_on k r.ticks)

  -- at every point of the course the stack's measure starts at 0 and grows by 0 or 1
  pub counts : (n : ℕ) → n ≤ length es → Counts (c.state n).stack.measure
  counts zero near = subst (λ (y : Log X). Counts y.stack.measure) (sym c.start) law
  counts (suc n) near =
      let e = there es n (omega arith) in
      let f = framed (c.state n) (c.state (suc n)) e.0 (c.step n e.0 e.1) in
      counts_by (c.state n).stack (c.state (suc n)).stack (reading e.0) f.stack (counts n (omega arith))
