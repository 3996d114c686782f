use Rattle.std.proofs.Common.{◌≡◌, ◌+◌, ◌*◌, ◌≤◌, length}
use Rattle.drawing_search.proofs.Common.{node_weight_in, range_with_len, scale_of, segment_weight, sum_by}
use Rattle.drawing_search.proofs.searching.weight_of.Given as goal

-- what the segments so far weigh
abbrev pub invariant-loop-s : goal.invariant-loop-s
invariant-loop-s l = record {
  weight : l.total ≡ sum_by (λ s. segment_weight (scale_of l.field.by) l.sketch (record { 0 = s })) (range_with_len 0 l.s);
  small : l.total ≤ 8589934592 * l.s;
}

-- and the nodes so far
abbrev pub invariant-loop-n : goal.invariant-loop-n
invariant-loop-n l = record {
  weight :
      l.total
      ≡ sum_by (λ s. segment_weight (scale_of l.field.by) l.sketch (record { 0 = s })) (range_with_len 0 (length l.field.graph.now.ends))
      + sum_by (node_weight_in (scale_of l.field.by) l.field.graph.now l.field.first.now l.sketch) (range_with_len 0 l.n);
  small : l.total ≤ 8589934592 * length l.field.graph.now.ends + 1099511627776 * l.n;
}
