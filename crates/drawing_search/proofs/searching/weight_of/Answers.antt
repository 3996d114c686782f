use Rattle.std.proofs.Common.{◌≡◌, ap, length, arith}
use Rattle.drawing_search.proofs.Common.{node_weight_in, range_with_len, scale_of, segment_weight, sum_by}
use Rattle.drawing_search.proofs.searching.weight_of.Goals as goal
use Rattle.drawing_weights.proofs.Sums.{sum_more}

pub overflow_add-total : goal.overflow_add-total
overflow_add-total c = omega (arith, c.loop-s.invariant.small, c.walk_at-total.ensures.small, c.loop-s-test.true, c.segs-s-end.ensures, c.requires.field.graph.few_segments)

pub loop-s-preserved : goal.loop-s-preserved
loop-s-preserved c =
    let more = sum_more (λ s. segment_weight (scale_of c.args.field.by) c.args.sketch.now (record { 0 = s })) c.loop-s.s in
    record { weight = omega (arith, c.loop-s.invariant.weight, c.walk_at-total.ensures.weight, more); small = omega (arith, c.loop-s.invariant.small, c.walk_at-total.ensures.small) }

pub loop-n-init : goal.loop-n-init
loop-n-init c =
    let f = c.args.field in
    let at_end : c.loop-s.s ≡ length f.graph.now.ends = omega (arith, c.loop-s-test.false, c.loop-s.auto.s-end, c.segs-s-end.ensures) in
    let all = ap (λ n. sum_by (λ s. segment_weight (scale_of f.by) c.args.sketch.now (record { 0 = s })) (range_with_len 0 n)) at_end in
    record { weight = omega (arith, c.loop-s.invariant.weight, all); small = omega (arith, c.loop-s.invariant.small, at_end) }

pub node_weight-total-requires-clause-stands : goal.node_weight-total-requires-clause-stands
node_weight-total-requires-clause-stands c = c.requires.whole.nodes c.loop-n.n (omega (arith, c.loop-n-test.true, c.nodes-n-end.ensures.count, c.requires.legal.stand_each))

pub overflow_add-total-in-loop-n : goal.overflow_add-total-in-loop-n
overflow_add-total-in-loop-n c =
    omega (arith, c.loop-n.invariant.small, c.node_weight-total.ensures.small, c.loop-n-test.true, c.nodes-n-end.ensures.count, c.requires.field.graph.few_nodes, c.requires.field.graph.few_segments)

pub loop-n-preserved : goal.loop-n-preserved
loop-n-preserved c =
    let more = sum_more (node_weight_in (scale_of c.args.field.by) c.args.field.graph.now c.args.field.first.now c.args.sketch.now) c.loop-n.n in
    record { weight = omega (arith, c.loop-n.invariant.weight, c.node_weight-total.ensures.weight, more); small = omega (arith, c.loop-n.invariant.small, c.node_weight-total.ensures.small) }

pub returns : goal.returns
returns c =
    let f = c.args.field in
    let at_end : c.loop-n.n ≡ length f.graph.now.kinds = omega (arith, c.loop-n-test.false, c.loop-n.auto.n-end, c.nodes-n-end.ensures.count) in
    let all = ap (λ n. sum_by (node_weight_in (scale_of f.by) f.graph.now f.first.now c.args.sketch.now) (range_with_len 0 n)) at_end in
    record {
      weight = omega (arith, c.loop-n.invariant.weight, all);
      small = omega (arith, c.loop-n.invariant.small, at_end, c.requires.field.graph.few_nodes, c.requires.field.graph.few_segments);
    }
