use Rattle.order_model.specs.Prefixes.{IsPrefixOf}
use Rattle.order_tests.proofs.bound_tests.chosen_in.Given as goal

abbrev pub invariant-loop-seg : goal.invariant-loop-seg
invariant-loop-seg l = IsPrefixOf l.problem.segs l.prefix
