use Rattle.std.proofs.Common.{◌≡◌, ◌∷◌, length, take, ap, ◌∙◌, arith}
use Rattle.words.specs.Words.{words_left}
use Rattle.words.proofs.Cuts.{words_more}
use Rattle.words.proofs.WordsIterator.next.Goals as goal

pub returns-clause-steps : goal.returns-clause-steps
returns-clause-steps c =
    ap (λ r. words_left (record { rest = r })) c.in_ok-line.was
    ∙ words_more c.in_ok-line.line.now c.length_before-end.result c.get-self.result c.length_before-end.ensures.answer c.get-self.ensures.lookup

pub returns-clause-goes : goal.returns-clause-goes
returns-clause-goes c =
    let e : words_left c.args.self.now ≡ take c.length_before-end.result c.in_ok-line.line.now ∷ words_left (record { rest = c.get-self.result }) = returns-clause-steps c in
    record { on = λ _. (tt, tt, omega (arith, ap length e)); keeps = tt; rests = λ _. tt }
