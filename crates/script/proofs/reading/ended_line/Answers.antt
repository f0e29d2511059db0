use Rattle.std.proofs.Common.{sym, ◌∙◌}
use Rattle.script.proofs.Pieces.{taken}
use Rattle.script.proofs.reading.ended_line.Goals as goal

pub returns-then-end-text-clause-within : goal.returns-then-end-text-clause-within
returns-then-end-text-clause-within c =
    ((taken c.args.number c.args.byte c.args.free.now c.args.text.now c.requires _ _ (sym c.line_at.ensures ∙ c.in_ok-line.was) c.if-end-text.true).from, c.if-end-text.true)

pub returns-then-end-text-clause-lawful : goal.returns-then-end-text-clause-lawful
returns-then-end-text-clause-lawful c =
    (taken c.args.number c.args.byte c.args.free.now c.args.text.now c.requires _ _ (sym c.line_at.ensures ∙ c.in_ok-line.was) c.if-end-text.true).lawful
