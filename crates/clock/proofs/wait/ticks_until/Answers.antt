use Rattle.std.proofs.Common.{◌≡◌, ℕ, ◌-◌, ◌<◌, sym, refl, ap, ◌∙◌, arith}
use Rattle.clock.specs.Meaning.{Meaning}
use Rattle.clock.specs.Hold.{wait_for, Waits}
use Rattle.clock.proofs.Waiting.{waits, wait_nought}
use Rattle.clock.proofs.Setting.{held, beyond}
use Rattle.clock.proofs.wait.ticks_until.Goals as goal

-- an answer that is the wait keeps its law
lawful_wait : {X : Type 0} (m : Meaning X) (left r : ℕ) → r ≡ wait_for m left → Waits m left r
lawful_wait m left r e = rw e (waits m left)

pub returns-then-left-eq0-clause-answer : goal.returns-then-left-eq0-clause-answer
returns-then-left-eq0-clause-answer g c =
    let now = c.args.alarm.now in
    rw c.if-left-eq0.true (sym (wait_nought (g.A.Clock.meaning now) (g.met.A.Clock.lawful now)))

pub returns-in-Ok-clause-answer : goal.returns-in-Ok-clause-answer
returns-in-Ok-clause-answer g c =
    let now = c.args.alarm.now in
    let some : 0 < c.args.left = omega arith in
    held (g.A.Clock.meaning now) _ _ _ _ _ _ _ c.args.left (g.met.A.Clock.lawful now) c.stop.ensures refl c.hold-wait.result
    (g.A.Clock.meaning c.hold-wait.new.self) (g.A.Alarm.appointment c.hold-wait.new.self) some c.in-Ok.ensures c.hold-wait.ensures

pub returns-in-Ok-clause-least : goal.returns-in-Ok-clause-least
returns-in-Ok-clause-least g c =
    lawful_wait (g.A.Clock.meaning c.args.alarm.now) c.args.left c.hold-wait.result (returns-in-Ok-clause-answer g c)

pub returns-in-Err-clause-answer : goal.returns-in-Err-clause-answer
returns-in-Err-clause-answer g c =
    let now = c.args.alarm.now in
    let some : 0 < c.args.left = omega arith in
    c.longest.ensures ∙ ap (λ (x : Meaning g.row.A-Sample.Denot). x.reach - 1) (c.appoint.ensures.clock ∙ c.stop.ensures.clock)
    ∙ sym (beyond (g.A.Clock.meaning now) _ _ _ _ _ _ _ c.args.left (g.met.A.Clock.lawful now) c.stop.ensures refl c.in-Err.field-0 some c.in-Err.ensures)

pub returns-in-Err-clause-least : goal.returns-in-Err-clause-least
returns-in-Err-clause-least g c =
    lawful_wait (g.A.Clock.meaning c.args.alarm.now) c.args.left c.longest.result (returns-in-Err-clause-answer g c)
