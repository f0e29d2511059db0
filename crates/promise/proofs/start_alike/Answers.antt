-- The promise, from the lemmas: the answer says that the two start alike, and then they keep it. Assumes nothing.
use Rattle.std.proofs.Common.{◌≡◌, T, length, sym, ap, ◌∙◌, subst, rules}
use Rattle.logger.specs.State.{view}
use Rattle.promise.proofs.Alikeness.{each_free, promised}
use Rattle.promise.proofs.start_alike.Goals as goal
use Rattle.promise.proofs.start_alike.Goals.{then-all_free, else-all_free}

pub returns-then-free-clause-answer : goal.returns-then-free-clause-answer
returns-then-free-clause-answer g c = search (rules, each_free)

pub returns-then-free-clause-promise : goal.returns-then-free-clause-promise
returns-then-free-clause-promise g c t =
    let l = view g.C.Clock.meaning c.args.a.now in
    let k = view g.D.Clock.meaning c.args.b.now in
    let long : length l.slots ≡ 32 = sym (ap length c.slots.ensures.table) ∙ c.slots.ensures.size in
    let long' : length k.slots ≡ 32
    = elim c.if-all_free.branch [
      | then-all_free w ↦ sym (ap length w.slots-then-all_free.ensures.table) ∙ w.slots-then-all_free.ensures.size
      | else-all_free w ↦ cc (sym c.if-free.true ∙ w.free-is ∙ w.if-all_free.false)
    ] in
    promised l k (g.met.C.Clock.lawful c.args.a.now.alarm).counts (g.met.D.Clock.lawful c.args.b.now.alarm).counts
    long long' (subst T (returns-then-free-clause-answer g c) t)
