use Rattle.std.proofs.Common.{◌≡◌, ◌<◌, ◌^◌, ◌&&◌, length, max}
use Rattle.order_rules.specs.PairWeights.{weight_where, most_over_pairs, is_apart, is_on, is_of_lines}
use Rattle.order_rules.proofs.divides.most_apart.Given as goal

abbrev pub invariant-loop-line : goal.invariant-loop-line
invariant-loop-line l = record {
  most : most_over_pairs (λ a b. weight_where (λ t. is_apart t && is_on l.seg t && is_of_lines a b t) l.terms) l.lines
      ≡ max l.most (most_over_pairs (λ a b. weight_where (λ t. is_apart t && is_on l.seg t && is_of_lines a b t) l.terms) l.rest);
  small : l.most < 2 ^ 63;
}

abbrev pub decreases-loop-line : goal.decreases-loop-line
decreases-loop-line l = length l.rest
