use Rattle.std.proofs.Common.{◌≡◌, ◌<◌, ◌^◌, ◌&&◌, length, max}
use Rattle.order_rules.specs.PairWeights.{weight_where, most_by, is_apart, is_on, is_of_lines}
use Rattle.order_rules.proofs.divides.most_apart_with.Given as goal

abbrev pub invariant-loop-other : goal.invariant-loop-other
invariant-loop-other l = record {
  most : most_by (λ b. weight_where (λ t. is_apart t && is_on l.seg t && is_of_lines l.line b t) l.terms) l.others
      ≡ max l.most (most_by (λ b. weight_where (λ t. is_apart t && is_on l.seg t && is_of_lines l.line b t) l.terms) l.rest);
  small : l.most < 2 ^ 63;
}

abbrev pub decreases-loop-other : goal.decreases-loop-other
decreases-loop-other l = length l.rest
