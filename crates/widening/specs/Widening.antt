-- Widening: the clock below with further bits above its reading, which count how often the reading has wrapped.
-- Assumes nothing.
use Rattle.std.specs.Prelude.{ℕ, ◌+◌, ◌*◌, ◌%◌, ◌^◌, min, Bool, cond}
use Rattle.clock.specs.Meaning.{Meaning}

abbrev pub widened_width : ℕ → ℕ → ℕ
widened_width w bits = min 48 (w + bits)

-- m is the clock below
abbrev pub widening_meaning : {X : Type 0} → Meaning X → ℕ → ℕ → Meaning X
widening_meaning m bits carry = record {
  width = widened_width m.width bits;
  reading = (carry * 2 ^ m.width + m.reading) % 2 ^ widened_width m.width bits;
  reach = m.reach;
  shown = m.shown;
  measure = m.measure;
  tag = m.tag;
}

-- the carry after a take in which the reading below wrapped or not
abbrev pub carry_after : ℕ → ℕ → Bool → ℕ
carry_after bits carry wrapped = cond wrapped ((carry + 1) % 2 ^ bits) carry
