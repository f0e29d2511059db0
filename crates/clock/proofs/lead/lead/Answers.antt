use Rattle.std.proofs.Common.{rules, ◌≡◌, ℕ, ◌+◌, ◌-◌, ◌^◌, ◌<◌, ◌≤◌, sym, ap, ◌∙◌, subst, mod-lt, arith, pow_pos, pow_mono}
use Rattle.clock.specs.Wrap.{minus}
use Rattle.clock.specs.Lead.{lead_of, turned, Serial}
use Rattle.clock.proofs.Leading.{two_halves, lead_turned, lead_serial}
use Rattle.clock.proofs.lead.lead.Goals as goal

half_fits : (w half : ℕ) → w ≤ 48 → half ≡ 2 ^ (w - 1) → half ≤ 2 ^ 47
half_fits w half high is =
    let less : w - 1 ≤ 47 = omega arith in
    let top : 2 ^ (w - 1) ≤ 2 ^ 47 = pow_mono less in
    omega arith

less_than_turn : (w a b half d : ℕ) → 2 ≤ w → half ≡ 2 ^ (w - 1) → d ≡ minus w a b → d < half + half
less_than_turn w a b half d low is from = omega (arith, mod-lt (a + (2 ^ w - b)) (pow_pos w), two_halves w (omega arith))

pub signed-requires : goal.signed-requires
signed-requires c =
    let low : 2 ≤ c.args.width = search rules in
    let high : c.args.width ≤ 48 = search rules in (
      half_fits c.args.width c.turn.result high c.turn.ensures,
      less_than_turn c.args.width c.args.a c.args.b c.turn.result c.difference.result low c.turn.ensures c.difference.ensures,
    )

pub returns-clause-reverse : goal.returns-clause-reverse
returns-clause-reverse c =
    let is : c.signed.result ≡ lead_of c.args.width c.args.a c.args.b = search rules in
    ap turned is ∙ lead_turned c.args.width c.args.a c.args.b

pub returns-clause-serial : goal.returns-clause-serial
returns-clause-serial c =
    let is : c.signed.result ≡ lead_of c.args.width c.args.a c.args.b = search rules in
    subst (Serial c.args.width c.args.a c.args.b) (sym is) (lead_serial c.args.width c.args.a c.args.b)
