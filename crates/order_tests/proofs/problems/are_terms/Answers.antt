use Rattle.std.proofs.Common.{All, subst, arith}
use Rattle.std.proofs.lemmas.List.{take_all}
use Rattle.std.proofs.lemmas.List.Elements.{All-more}
use Rattle.order_model.specs.Problems.{IsTerm}
use Rattle.order_tests.proofs.problems.are_terms.Goals as goal

pub loop-term-preserved : goal.loop-term-preserved
loop-term-preserved c =
    All-more (IsTerm c.args.segs.now) c.args.terms.now c.loop-term.term-index _ c.loop-term-test.true c.loop-term.invariant (c.is_term.ensures c.if-not-is_term.false)

pub returns : goal.returns
returns c = λ _. subst (All (IsTerm c.args.segs.now)) (take_all c.loop-term.term-index c.args.terms.now (omega (arith, c.loop-term-test.false))) c.loop-term.invariant
