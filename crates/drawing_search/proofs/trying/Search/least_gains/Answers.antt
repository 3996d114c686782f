use Rattle.std.proofs.Common.{◌∙◌, sym, ap, subst, ◌<◌, List, length, drop, min, arith}
use Rattle.drawing_search.specs.Changes.{point_after}
use Rattle.drawing_search.proofs.Common.{drop_all, end_of, gains_at_least, Chain, NodeId}
use Rattle.drawing_search.proofs.LayLoop.{gains_step}
use Rattle.drawing_search.proofs.trying.Search.least_gains.Goals as goal

pub point_after-from-requires-clause-node : goal.point_after-from-requires-clause-node
point_after-from-requires-clause-node c =
    subst (λ (x : Chain). x.from.0 < length c.args.self.now.sketch.points) (sym c.index-runs-i.is) (c.requires.from c.loop-i.i c.index-runs-i.result c.loop-i-test.true)

pub point_after-to-requires-clause-node : goal.point_after-to-requires-clause-node
point_after-to-requires-clause-node c =
    let there = subst (λ (x : Chain). (end_of x).0 < length c.args.self.now.sketch.points) (sym c.index-runs-i.is) (c.requires.to c.loop-i.i c.index-runs-i.result c.loop-i-test.true) in
    subst (λ (n : NodeId). n.0 < length c.args.self.now.sketch.points) (sym c.end-end.ensures) there

pub between-more-requires : goal.between-more-requires
between-more-requires c = c.requires.small c.loop-i.i _ (omega (arith, c.loop-i-test.true, c.requires.each))

pub loop-i-init : goal.loop-i-init
loop-i-init c = record { gains = omega arith; few = omega arith }

pub loop-i-preserved : goal.loop-i-preserved
loop-i-preserved c =
    let f = point_after c.args.self.now.sketch c.args.vector c.args.moved.now in
    record {
      gains = gains_step f c.args.runs.now c.args.least.now c.loop-i.i c.index-runs-i.result _ c.point_after-from.result c.point_after-to.result 18446744073709551615 c.loop-i.total c.between-more.result c.saturating_add-total.result
          (min 18446744073709551615 (gains_at_least f c.args.runs.now c.args.least.now)) c.loop-i-test.true c.requires.each c.index-runs-i.is c.point_after-from.ensures (c.point_after-to.ensures ∙ ap f c.end-end.ensures)
          c.between-more.ensures.value (omega (arith, c.saturating_add-total.ensures)) c.loop-i.invariant.gains;
      few = omega (arith, c.saturating_add-total.ensures);
    }

pub returns : goal.returns
returns c =
    let f = point_after c.args.self.now.sketch c.args.vector c.args.moved.now in
    let none = drop_all c.loop-i.i c.args.runs.now c.loop-i-test.false in
    let rest = ap (λ (xs : List Chain). gains_at_least f xs (drop c.loop-i.i c.args.least.now)) none in
    omega (arith, c.loop-i.invariant.gains, c.loop-i.invariant.few, rest)
