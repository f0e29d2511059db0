use Rattle.std.proofs.Common.{◌≡◌, ℕ, ◌+◌, ◌-◌, ◌*◌, ◌%◌, ◌^◌, ◌<◌, ◌≤◌, ap, ◌∙◌, arith}
use Rattle.widening.specs.WidenedLemmas.{joined_is, joined_fits}
use Rattle.widening.proofs.widening.joined.Goals as goal

-- the two parts as the code has them
module _ (width low carry reading above turn : ℕ) (wider : low ≤ width) (narrow : width ≤ 48) (fits : reading < 2 ^ low)
    (is_above : above ≡ 2 ^ (width - low)) (is_turn : turn ≡ 2 ^ low) where
  high : carry % above * turn ≡ carry % 2 ^ (width - low) * 2 ^ low
  high = λ i. carry % is_above i * is_turn i

  all_fits : carry % above * turn + reading < 2 ^ 64
  all_fits = omega (arith, high, joined_fits width low carry reading wider fits narrow)

  all : carry % above * turn + reading ≡ (carry * 2 ^ low + reading) % 2 ^ width
  all = ap (λ n. n + reading) high ∙ joined_is width low carry reading wider fits

pub overflow_mul-result : goal.overflow_mul-result
overflow_mul-result c =
    let fits = all_fits c.args.width.bits c.args.low.bits c.args.carry c.args.reading _ _
    c.requires.0 c.args.width.high c.requires.1 c.turn.ensures c.turn-2.ensures in
    record { fits = omega arith }

pub overflow_add-result : goal.overflow_add-result
overflow_add-result c =
    record {
      fits = all_fits c.args.width.bits c.args.low.bits c.args.carry c.args.reading _ _
          c.requires.0 c.args.width.high c.requires.1 c.turn.ensures c.turn-2.ensures;
    }

pub returns : goal.returns
returns c =
    all c.args.width.bits c.args.low.bits c.args.carry c.args.reading _ _
    c.requires.0 c.args.width.high c.requires.1 c.turn.ensures c.turn-2.ensures
