use Rattle.std.proofs.Common.{◌≡◌, ◌+◌, Bool, false, List, [], ◌∷◌, length, drop, set, Err, sym, ap, ◌∙◌, arith, length-append}
use Rattle.std.proofs.lemmas.Result.{err_from_is_err_and}
use Rattle.words.specs.Cuts.{cut}
use Rattle.script.specs.Lines.{lines_of, read_as}
use Rattle.script.specs.Script.{script_from}
use Rattle.script.proofs.Laws.{frees, frees_fewer}
use Rattle.script.proofs.Pieces.{prefixed, prefixed_more, on_ended, refused}
use Rattle.script.proofs.reading.read.Goals as goal

pub returns-in_err-line-clause-answer : goal.returns-in_err-line-clause-answer
returns-in_err-line-clause-answer c =
    let byte = c.loop-byte.byte in
    let free = c.loop-byte.open in
    let text = c.args.text.now in
    let done = lines_of c.loop-byte.script in
    let p = err_from_is_err_and c.from_residual.result c.from_residual.ensures.1 in
    let stop = refused _ byte free text c.loop-byte-test.true _ (sym c.ended_line.ensures.answer ∙ c.in_err-line.was) in
    ap read_as p.1
    ∙ ap (λ e. Err e) p.2
    ∙ sym (
    c.loop-byte.invariant.answer
    ∙ ap (λ ls. prefixed done (script_from (length ls + 1) byte free (cut 10 (drop byte text)))) (sym c.lines.ensures)
    ∙ ap (prefixed done) stop)

pub loop-byte-preserved : goal.loop-byte-preserved
loop-byte-preserved c =
    let byte = c.loop-byte.byte in
    let free = c.loop-byte.open in
    let text = c.args.text.now in
    let done = lines_of c.loop-byte.script in
    let l = c.in_ok-line.line in
    let end = c.in_ok-line.end in
    let on = (on_ended _ byte free text c.loop-byte-test.true l end (sym c.ended_line.ensures.answer ∙ c.in_ok-line.was)).on in
    let more = length-append done (l ∷ []) in
    let count : length c.lines.result.now + 1 ≡ length (lines_of c.add.new.self) = omega (arith, ap length c.lines.ensures, ap length c.add.ensures, more) in
    let lawful = c.in_ok-line.ensures.lawful in
    let fewer = frees_fewer free l.slot (omega (arith, c.loop-byte.invariant.slots, lawful.0)) lawful.1 in
    let tail = λ (n : _) (f : List Bool). script_from (n + 1) (end + 1) f (cut 10 (drop (end + 1) text)) in
    record {
      answer =
          c.loop-byte.invariant.answer
          ∙ ap (λ ls. prefixed done (script_from (length ls + 1) byte free (cut 10 (drop byte text)))) (sym c.lines.ensures)
          ∙ ap (prefixed done) on
          ∙ prefixed_more done l (tail (length c.lines.result.now + 1) (set free l.slot false))
          ∙ ap (λ ls. prefixed ls (tail (length c.lines.result.now + 1) (set free l.slot false))) (sym c.add.ensures)
          ∙ ap (λ f. prefixed (lines_of c.add.new.self) (tail (length c.lines.result.now + 1) f)) (sym c.close.ensures)
          ∙ ap (λ n. prefixed (lines_of c.add.new.self) (tail n c.close.new.free)) count;
      within = omega (arith, c.in_ok-line.ensures.within);
      room = omega (arith, fewer, ap frees c.close.ensures, count, ap length c.lines.ensures, c.loop-byte.invariant.room);
      slots = c.type_inv.open;
    }
