use Rattle.std.proofs.Common.{◌-◌, min, sym, ap, ◌∙◌}
use Rattle.clock.specs.Hold.{hold_of}
use Rattle.clock.proofs.Waiting.{steady_wait}
use Rattle.clock.proofs.wait.steady_hold.Goals as goal

pub returns-in-Standing : goal.returns-in-Standing
returns-in-Standing g c steady =
    let m = g.C.Clock.meaning c.args.clock.now in
    c.min.ensures ∙ ap (λ n. min c.in-Standing.left (n - 1)) c.reach-longest.ensures
    ∙ steady_wait m c.in-Standing.left steady
    ∙ ap (hold_of m) (sym c.in-Standing.is)
