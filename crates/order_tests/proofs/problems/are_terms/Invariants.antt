use Rattle.std.proofs.Common.{take}
use Rattle.std.specs.List.{All}
use Rattle.order_model.specs.Problems.{IsTerm}
use Rattle.order_tests.proofs.problems.are_terms.Given as goal

abbrev pub invariant-loop-term : goal.invariant-loop-term
invariant-loop-term l = All (IsTerm l.segs) (take l.term-index l.terms)
