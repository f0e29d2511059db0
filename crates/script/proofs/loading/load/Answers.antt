use Rattle.std.proofs.Common.{◌+◌, List, get_or, drop, subst}
use Rattle.std.proofs.lemmas.List.{drop_more}
use Rattle.logger.specs.State.{view}
use Rattle.jobs.specs.declared.Action.TheVariants.{Read}
use Rattle.jobs.specs.declared.Kind.TheVariants.{Once}
use Rattle.line.specs.declared.line.Line.{Line}
use Rattle.script.specs.Load.{set_up_all}
use Rattle.script.proofs.Loads.{Ready, ready_more}
use Rattle.script.proofs.loading.load.Goals as goal

-- what the code reads past a slice
abbrev blank : Line
blank = record { slot = 0; delay = 0; job = record { kind = Once; action = Read 0 } }

pub loop-line-preserved : goal.loop-line-preserved
loop-line-preserved g c =
    let l = view g.A.Clock.meaning c.loop-line.logger in
    let items = c.lines-line-items.result.now in
    let i = c.loop-line.line-index in
    let whole = set_up_all (view g.A.Clock.meaning c.args.logger.now) items in
    let R : List Line → Type 0 = λ ls. Ready whole l ls in
    ready_more whole l (view g.A.Clock.meaning c.set_up_line.new.logger) (get_or items i blank) (drop (i + 1) items) c.set_up_line.result c.set_up_line.ensures
    (subst R (drop_more items i blank c.loop-line-test.true) c.loop-line.invariant)
