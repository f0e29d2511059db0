use Rattle.std.proofs.Common.{drop}
use Rattle.logger.specs.State.{view}
use Rattle.script.specs.Load.{set_up_all}
use Rattle.script.proofs.Loads.{Ready}
use Rattle.script.proofs.loading.load.Given as goal

-- the lines that are left make of the logger what all of them make of it as it was
abbrev pub invariant-loop-line : goal.invariant-loop-line
invariant-loop-line g l =
    Ready (set_up_all (view g.A.Clock.meaning l.initial.logger) l.line-items) (view g.A.Clock.meaning l.logger) (drop l.line-index l.line-items)
