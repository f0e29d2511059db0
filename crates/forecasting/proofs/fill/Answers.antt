use Rattle.std.proofs.Common.{◌≡◌, ◌<◌, min, length, arith}
use Rattle.forecasting.specs.Pending.{firings}
use Rattle.forecasting.proofs.Rows.{sofar_more}
use Rattle.forecasting.proofs.fill.Goals as goal

pub loop-i-preserved : goal.loop-i-preserved
loop-i-preserved c =
    let n = c.room-most.result in
    let inside : c.loop-i.i < n = c.loop-i-test.true in
    let most : n ≡ min (min (length c.args.moments.now) (length c.args.slots.now)) 256 = c.room-most.ensures in
    sofar_more n (firings n c.args.plan.now) c.args.moments.now c.args.slots.now c.loop-i.i c.loop-i.moments c.loop-i.slots
    c.loop-i.plan c.next.new.self c.in-Some.due c.in-Some.ensures.answer c.next.ensures.after inside (omega arith) (omega arith) c.loop-i.invariant
