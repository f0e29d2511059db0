-- Each case computes, but for the samples that are never shown: a remainder is less than its divisor.
use Rattle.std.proofs.Common.{rules, ap, arith}
use Rattle.std.specs.Fmt.{digits}
use Rattle.std.proofs.lemmas.List.Elements.{All-from_recursion}
use Rattle.clock.specs.Hold.{first_from}
use Rattle.up.specs.declared.up.Word.{Word}
use Rattle.down.specs.declared.down.Count.{Count}
use Rattle.worked.specs.Cases.{True, cases, up_stray, down_stray}
use Rattle.worked.proofs.worked_numbers.Goals as goal

no_256 : True (up_stray 8 250 256)
no_256 d h e = omega (arith, ap (λ (x : Word). x.0) e)

no_100 : True (down_stray 99 30 100)
no_100 d h e = omega (arith, ap (λ (x : Count). x.0) e)

pub returns-clause-all : goal.returns-clause-all
unfolding first_from digits
returns-clause-all c = All-from_recursion True cases (search (rules, no_256, no_100) parts 40)
