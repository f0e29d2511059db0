-- The lead of one reading over another: how far it is ahead, by the shorter way round, and no answer at half a turn.
-- Assumes nothing.
use Rattle.std.specs.Prelude.{◌≡◌, ℕ, ◌+◌, ◌-◌, ◌^◌, ◌<◌, ◌≤◌, cond, ◌&&◌, ◌⊎◌, ℤ, pos, negsuc, ◌-ℤ◌, neg_ℤ, Ok, Err, Result, nat_le, nat_lt}
use Rattle.fault.specs.declared.Fault.{Fault}
use Rattle.fault.specs.Table.{bad_lead_width, lead_limits, half_turn}
use Rattle.clock.specs.Wrap.{plus, minus}

-- d is the way up from the one to the other: past half a turn the way down is the shorter one
abbrev pub lead_at : ℕ → ℕ → Result ℤ Fault
lead_at half d = cond (nat_lt d half) (Ok (pos d)) (cond (nat_lt half d) (Ok (pos d -ℤ pos (half + half))) (Err half_turn))

-- the lead of a over b: the width is judged first, then the readings
abbrev pub lead_of : ℕ → ℕ → ℕ → Result ℤ Fault
lead_of w a b =
    cond (nat_le 2 w && nat_le w 48)
    (cond (nat_lt a (2 ^ w) && nat_lt b (2 ^ w)) (lead_at (2 ^ (w - 1)) (minus w a b)) (Err lead_limits))
    (Err bad_lead_width)

-- the lead with its sign changed; a refusal stays what it is
abbrev pub turned : Result ℤ Fault → Result ℤ Fault
turned (Ok lead) = Ok (neg_ℤ lead)
turned (Err fault) = Err fault

-- the addition of serial numbers: only a number below half a turn may be added to a reading
abbrev pub Reaches : ℕ → ℕ → ℕ → ℕ → Type 0
Reaches w from n to = (n < 2 ^ (w - 1)) × (to ≡ plus w from n)

-- what a lead means there: it is the number to add to the reading that is behind; it is refused where no number leads from
-- either of two readings to the other
abbrev pub Serial : ℕ → ℕ → ℕ → Result ℤ Fault → Type 0
Serial w a b (Ok (pos n)) = Reaches w b n a
Serial w a b (Ok (negsuc n)) = Reaches w a (n + 1) b
Serial w a b (Err fault) = 2 ≤ w → w ≤ 48 → a < 2 ^ w → b < 2 ^ w → (n : ℕ) → (Reaches w b n a) ⊎ (Reaches w a n b) → ⊥
