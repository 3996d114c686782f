use Rattle.std.proofs.Common.{◌≡◌, ◌≤◌, ◌*◌, ◌&&◌, take}
use Rattle.order_rules.specs.PairWeights.{weight_where, is_apart, is_on, is_of_lines}
use Rattle.order_rules.proofs.divides.aparts_of.Given as goal

abbrev pub invariant-loop-term : goal.invariant-loop-term
invariant-loop-term l = record {
  sum : l.total ≡ weight_where (λ t. is_apart t && is_on l.seg t && is_of_lines l.a l.b t) (take l.term-index l.terms);
  small : l.total ≤ 4294967296 * l.term-index;
}
