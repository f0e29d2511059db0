-- What a clock means: its width, reading, reach, the samples that its hardware shows, its measure and its tag; and the laws of these.
-- Assumes nothing.
use Rattle.std.specs.Prelude.{◌≡◌, ℕ, ◌+◌, ◌-◌, ◌^◌, ◌<◌, ◌≤◌, List, [], ◌∷◌}
use Rattle.clock.specs.Wrap.{plus}

-- X is the kind of sample. A true tick is one step of the hardware counter.
pub record Meaning (X : Type 0) : Type 0 where
  pub width : ℕ
  pub reading : ℕ
  -- a sample is told apart as long as fewer true ticks than this have passed
  pub reach : ℕ
  -- what the hardware shows d true ticks after the last accepted sample; the list holds the distances of samples accepted from now on
  pub shown : List ℕ → ℕ → X
  -- how many ticks of its own the clock gains in the coming d true ticks
  pub measure : ℕ → ℕ
  pub tag : ℕ

-- a measure starts at 0, and grows by 0 or 1 with each true tick
pub record Counts (measure : ℕ → ℕ) : Type 0 where
  pub nought : measure 0 ≡ 0
  pub grows : (d : ℕ) → measure d ≤ measure (d + 1)
  pub slow : (d : ℕ) → measure (d + 1) ≤ measure d + 1

pub record Lawful {X : Type 0} (m : Meaning X) : Type 0 where
  pub width_low : 8 ≤ m.width
  pub width_high : m.width ≤ 48
  pub reading_fits : m.reading < 2 ^ m.width
  pub reach_low : 2 ≤ m.reach
  pub reach_high : m.reach ≤ 2 ^ 32
  pub reach_fits : m.reach ≤ 2 ^ m.width
  pub counts : Counts m.measure
  pub apart : (d e : ℕ) → d < m.reach → e < m.reach → m.shown [] d ≡ m.shown [] e → d ≡ e

-- the clock after the sample that is shown at d was accepted
abbrev pub advanced : {X : Type 0} → Meaning X → ℕ → Meaning X
advanced m d = record {
  width = m.width;
  reading = plus m.width m.reading (m.measure d);
  reach = m.reach;
  shown = λ ds e. m.shown (d ∷ ds) e;
  measure = λ x. m.measure (d + x) - m.measure d;
  tag = m.tag;
}

-- the true ticks of several distances together
abbrev pub total : List ℕ → ℕ
total [] = 0
total (d ∷ ds) = d + total ds
