use Rattle.std.proofs.Common.{◌≡◌, ℕ, ◌+◌, ◌-◌, ◌<◌, ◌≤◌, List, [], ◌∷◌, ◌++◌, pos, length, map, fold, get_or, drop, append_assoc, append-nil, sym, ap, subst, ◌∙◌, arith}
use Rattle.run_laying.specs.Sketches.{lifted as lifted_off, point_of_node}
use Rattle.drawing_search.proofs.Common.{inner_nodes, points_along, stands_below, AreLiftable, ChainStep, GridPoint}
use Rattle.drawing_search.proofs.Common.{NodeId, Sketch}
use Rattle.drawing_search.proofs.RunEnds.{inner_end, inner_left}
use Rattle.drawing_search.proofs.Takable.{next_liftable}
use Rattle.drawing_search.proofs.lifting.lift_between.Goals as goal

abbrev none : ChainStep
none = record { seg = record { 0 = 0 }; to = record { 0 = 0 } }

-- one point more
one_more : (k old : Sketch) (ts : List ChainStep) (i : ℕ) (p : GridPoint) (before inner : List (NodeId × GridPoint)) → 1 ≤ i → i < length ts → p ≡ point_of_node k (get_or ts (i - 1) none).to.0 → k.points ≡ old.points
    → inner ≡ before ++ ((get_or ts (i - 1) none).to, p) ∷ [] → inner ++ points_along old (drop (i + 1 - 1) ts) ≡ before ++ points_along old (drop (i - 1) ts)
one_more k old ts i p before inner some h is same pushed =
    ap (λ (v : List (NodeId × GridPoint)). v ++ points_along old (drop (i + 1 - 1) ts)) pushed
    ∙ append_assoc before (((get_or ts (i - 1) none).to, p) ∷ []) (points_along old (drop (i + 1 - 1) ts))
    ∙ ap (λ (q : GridPoint). before ++ ((get_or ts (i - 1) none).to, q) ∷ points_along old (drop (i + 1 - 1) ts)) (is ∙ ap (λ (ps : List GridPoint). get_or ps (get_or ts (i - 1) none).to.0 (record { x = pos 0; y = pos 0 })) same)
    ∙ ap (λ (ns : List NodeId). before ++ map (λ (n : NodeId). (n, point_of_node old n.0)) ns) (sym (inner_left ts i none some h))

pub point-requires : goal.point-requires
point-requires c =
    let can = (next_liftable c.args.field.graph.now c.loop-i.sketch c.args.steps.now c.loop-i.i none c.loop-i.auto.i c.loop-i-test.true c.loop-i.invariant.can).0 in
    omega (arith, stands_below c.args.field.graph.now c.loop-i.sketch can.legal (get_or c.args.steps.now (c.loop-i.i - 1) none).to.0 can.stands, can.legal.points_each)

pub lift-requires : goal.lift-requires
lift-requires c =
    let can = (next_liftable c.args.field.graph.now c.loop-i.sketch c.args.steps.now c.loop-i.i none c.loop-i.auto.i c.loop-i-test.true c.loop-i.invariant.can).0 in
    record { legal = can.legal; stands = can.stands }

pub loop-i-preserved : goal.loop-i-preserved
loop-i-preserved c =
    let ts = c.args.steps.now in
    let i = c.loop-i.i in
    let k = c.loop-i.sketch in
    record {
      rest = ap (λ (j : Sketch). fold lifted_off j (inner_nodes (drop (i + 1 - 1) ts))) c.lift.ensures ∙ sym (ap (fold lifted_off k) (inner_left ts i none c.loop-i.auto.i c.loop-i-test.true)) ∙ c.loop-i.invariant.rest;
      can = subst (λ (j : Sketch). AreLiftable c.args.field.graph.now j (inner_nodes (drop (i + 1 - 1) ts))) (sym c.lift.ensures) (next_liftable c.args.field.graph.now k ts i none c.loop-i.auto.i c.loop-i-test.true c.loop-i.invariant.can).1;
      points = ap (λ (j : Sketch). j.points) c.lift.ensures ∙ c.loop-i.invariant.points;
      inner = one_more k c.args.sketch.now ts i c.point.result c.loop-i.lifted.inner.items _ c.loop-i.auto.i c.loop-i-test.true c.point.ensures c.loop-i.invariant.points c.in_ok-push.ensures.items ∙ c.loop-i.invariant.inner;
      walks = c.loop-i.invariant.walks;
      moved = c.loop-i.invariant.moved;
      weight = c.loop-i.invariant.weight;
      least = c.loop-i.invariant.least;
    }

pub returns-clause-sketch : goal.returns-clause-sketch
returns-clause-sketch c =
    let i = c.loop-i.i in
    let past : length c.args.steps.now ≤ i = c.loop-i-test.false in
    sym (ap (fold lifted_off c.loop-i.sketch) (inner_end c.args.steps.now i past)) ∙ c.loop-i.invariant.rest

pub returns-clause-inner : goal.returns-clause-inner
returns-clause-inner c =
    let i = c.loop-i.i in
    let past : length c.args.steps.now ≤ i = c.loop-i-test.false in
    sym
    (ap (λ (ns : List NodeId). c.loop-i.lifted.inner.items ++ map (λ (n : NodeId). (n, point_of_node c.args.sketch.now n.0)) ns) (inner_end c.args.steps.now i past)
    ∙ append-nil c.loop-i.lifted.inner.items)
    ∙ c.loop-i.invariant.inner
