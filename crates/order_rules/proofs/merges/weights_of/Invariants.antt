use Rattle.std.proofs.Common.{◌≤◌, ◌*◌, take}
use Rattle.order_rules.specs.MergeWeights.{HaveWeights}
use Rattle.order_rules.proofs.merges.weights_of.Given as goal

abbrev pub invariant-loop-term : goal.invariant-loop-term
invariant-loop-term l = record {
  weights : HaveWeights l.into l.from (take l.term-index l.terms) l.a l.b l.weights;
  links : l.weights.links ≤ 4294967296 * l.term-index;
  aparts : l.weights.aparts ≤ 4294967296 * l.term-index;
  beside : l.weights.beside ≤ 4294967296 * l.term-index;
  aparts_beside : l.weights.aparts_beside ≤ 4294967296 * l.term-index;
}
