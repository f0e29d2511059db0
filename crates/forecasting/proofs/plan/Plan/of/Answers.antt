use Rattle.std.proofs.Common.{length, [], map, get_or, take, sym, ap, ◌∙◌, arith}
use Rattle.std.proofs.lemmas.List.{map_more, length-map, length-take-le}
use Rattle.queue.specs.Order.{inserted, in_order}
use Rattle.queue.proofs.Ordered.{added_more, length_added}
use Rattle.jobs.specs.declared.Kind.TheVariants.{Once}
use Rattle.jobs.specs.declared.Action.TheVariants.{Read}
use Rattle.line.specs.declared.line.Line.{Line}
use Rattle.forecasting.specs.Pending.{pending, pending_order, pending_compare}
use Rattle.forecasting.proofs.plan.Plan.of.Goals as goal

-- what the code reads past a slice
abbrev blank : Line
blank = record { slot = 0; delay = 0; job = record { kind = Once; action = Read 0 } }

pub put-requires : goal.put-requires
put-requires c =
    let xs = c.args.lines.now in
    let k = c.loop-line.line-index in
    let so_far = map (pending c.args.start) (take k xs) in
    omega (arith, ap length c.loop-line.invariant, length_added pending_order [] so_far, length-map (take k xs) (pending c.args.start), length-take-le k xs (omega (arith, c.loop-line-test.true)), c.loop-line-test.true, c.requires.few)

pub loop-line-preserved : goal.loop-line-preserved
loop-line-preserved c =
    let xs = c.args.lines.now in
    let k = c.loop-line.line-index in
    let f = pending c.args.start in
    c.put.ensures
    ∙ ap (inserted pending_compare c.of.result) c.loop-line.invariant
    ∙ ap (λ p. inserted pending_compare p (in_order pending_compare (map f (take k xs)))) c.of.ensures
    ∙ sym (added_more pending_order [] (map f (take k xs)) (f (get_or xs k blank)))
    ∙ ap (in_order pending_compare) (sym (map_more f xs k blank c.loop-line-test.true))
