use Rattle.std.proofs.Common.{refl, ◌≤◌, List, ◌∷◌, ◌++◌, [], length, get_or, ap, subst, ◌∙◌, arith}
use Rattle.drawing_search.proofs.Common.{apart_weight_by, first_point, is_near, scale_of, Chain, GridPoint, NodeId}
use Rattle.drawing_search.proofs.LiftedGroups.{group_lifted, least_asks, least_begin, least_more, node_fits, node_lifted, node_ready, nodes_begin, run_fits, run_lifted, run_takable, runs_begin}
use Rattle.drawing_search.proofs.Takable.{takable_stands}
use Rattle.drawing_search.proofs.lifting.lift.Goals as goal

abbrev none : NodeId
none = record { 0 = 0 }

-- ---- runs

pub loop-run-init : goal.loop-run-init
loop-run-init c =
    runs_begin c.args.field c.requires.field c.args.sketch.now c.args.weight c.requires.settled c.args.group.now c.requires.fitting c.requires.apart c.args.sketch.now _ refl c.new.ensures.items c.new-2.ensures.items c.new-3.ensures.items c.requires.settled.weight_is c.new-4.ensures.items

pub run_gain-gain-requires : goal.run_gain-gain-requires
run_gain-gain-requires c =
    let f = c.args.field in
    let k = c.loop-run.sketch in
    let r = c.run-item.result in
    let can = run_takable c.args.field c.requires.field c.args.sketch.now c.args.weight c.requires.settled c.args.group.now c.requires.fitting c.requires.apart c.as_slice-runs.result.now c.as_slice-runs.ensures c.loop-run.run-index r c.run-item.is c.loop-run-test.true k c.loop-run.lifted c.loop-run.invariant in
    record { field = c.requires.field; legal = can.legal; run = can.run; inner = takable_stands f.graph.now k r can }

pub overflow_sub-rest : goal.overflow_sub-rest
overflow_sub-rest c =
    let less = run_fits c.args.field c.requires.field c.args.sketch.now c.args.weight c.requires.settled c.args.group.now c.requires.fitting c.requires.apart c.as_slice-runs.result.now c.as_slice-runs.ensures c.loop-run.run-index c.run-item.result c.run-item.is c.loop-run-test.true c.loop-run.sketch c.loop-run.lifted c.loop-run.invariant in
    omega (arith, less, c.run_gain-gain.ensures.gain)

pub lift_run-requires-clause-takable : goal.lift_run-requires-clause-takable
lift_run-requires-clause-takable c =
    run_takable c.args.field c.requires.field c.args.sketch.now c.args.weight c.requires.settled c.args.group.now c.requires.fitting c.requires.apart c.as_slice-runs.result.now c.as_slice-runs.ensures c.loop-run.run-index c.run-item.result c.run-item.is c.loop-run-test.true c.loop-run.sketch c.loop-run.lifted c.loop-run.invariant

pub loop-run-preserved : goal.loop-run-preserved
loop-run-preserved c =
    let less = run_fits c.args.field c.requires.field c.args.sketch.now c.args.weight c.requires.settled c.args.group.now c.requires.fitting c.requires.apart c.as_slice-runs.result.now c.as_slice-runs.ensures c.loop-run.run-index c.run-item.result c.run-item.is c.loop-run-test.true c.loop-run.sketch c.loop-run.lifted c.loop-run.invariant in
    run_lifted c.args.field c.requires.field c.args.sketch.now c.args.weight c.requires.settled c.args.group.now c.requires.fitting c.requires.apart c.as_slice-runs.result.now c.as_slice-runs.ensures c.loop-run.run-index c.run-item.result c.run-item.is c.loop-run-test.true c.loop-run.sketch c.loop-run.lifted c.loop-run.invariant
    c.lift_run.new.sketch c.lift_run.new.lifted c.in_ok-lift_run.ensures.sketch c.in_ok-lift_run.ensures.walks c.in_ok-lift_run.ensures.inner c.in_ok-lift_run.ensures.moved (omega (arith, less, c.in_ok-lift_run.ensures.rest, c.run_gain-gain.ensures.gain)) c.in_ok-lift_run.ensures.least

-- ---- nodes

pub loop-n-init : goal.loop-n-init
loop-n-init c =
    nodes_begin c.args.field c.requires.field c.args.sketch.now c.args.weight c.requires.settled c.args.group.now c.requires.fitting c.requires.apart c.loop-run.run-index c.loop-run.sketch c.loop-run.lifted (subst (λ (v : List Chain). length v ≤ c.loop-run.run-index) c.as_slice-runs.ensures c.loop-run-test.false) c.loop-run.invariant

pub point-at-requires : goal.point-at-requires
point-at-requires c =
    let ready = node_ready c.args.field c.requires.field c.args.sketch.now c.args.weight c.requires.settled c.args.group.now c.requires.fitting c.requires.apart c.as_slice-nodes.result.now c.as_slice-nodes.ensures c.loop-n.n-index none c.loop-n-test.true c.loop-n.sketch c.loop-n.lifted c.loop-n.invariant in
    omega (arith, ready.node, ready.legal.points_each)

pub apart_weight-apart-requires : goal.apart_weight-apart-requires
apart_weight-apart-requires c =
    let ready = node_ready c.args.field c.requires.field c.args.sketch.now c.args.weight c.requires.settled c.args.group.now c.requires.fitting c.requires.apart c.as_slice-nodes.result.now c.as_slice-nodes.ensures c.loop-n.n-index none c.loop-n-test.true c.loop-n.sketch c.loop-n.lifted c.loop-n.invariant in
    record { field = c.requires.field; node = ready.node; near = ap (is_near 2000) c.point-at.ensures ∙ ready.near }

pub overflow_sub-left : goal.overflow_sub-left
overflow_sub-left c =
    let f = c.args.field in
    let n = get_or c.as_slice-nodes.result.now c.loop-n.n-index none in
    let weight = c.apart_weight-apart.ensures.weight ∙ ap (apart_weight_by (scale_of f.by) n.0 (first_point f.first.now n.0)) c.point-at.ensures in
    let less = node_fits c.args.field c.requires.field c.args.sketch.now c.args.weight c.requires.settled c.args.group.now c.requires.fitting c.requires.apart c.as_slice-nodes.result.now c.as_slice-nodes.ensures c.loop-n.n-index none c.loop-n-test.true c.loop-n.sketch c.loop-n.lifted c.loop-n.invariant in
    omega (arith, weight, less)

pub lift-requires : goal.lift-requires
lift-requires c =
    let ready = node_ready c.args.field c.requires.field c.args.sketch.now c.args.weight c.requires.settled c.args.group.now c.requires.fitting c.requires.apart c.as_slice-nodes.result.now c.as_slice-nodes.ensures c.loop-n.n-index none c.loop-n-test.true c.loop-n.sketch c.loop-n.lifted c.loop-n.invariant in
    record { legal = ready.legal; stands = ready.stands }

pub loop-n-preserved : goal.loop-n-preserved
loop-n-preserved c =
    let f = c.args.field in
    let n = get_or c.as_slice-nodes.result.now c.loop-n.n-index none in
    let weight = c.apart_weight-apart.ensures.weight ∙ ap (apart_weight_by (scale_of f.by) n.0 (first_point f.first.now n.0)) c.point-at.ensures in
    let less = node_fits c.args.field c.requires.field c.args.sketch.now c.args.weight c.requires.settled c.args.group.now c.requires.fitting c.requires.apart c.as_slice-nodes.result.now c.as_slice-nodes.ensures c.loop-n.n-index none c.loop-n-test.true c.loop-n.sketch c.loop-n.lifted c.loop-n.invariant in
    node_lifted c.args.field c.requires.field c.args.sketch.now c.args.weight c.requires.settled c.args.group.now c.requires.fitting c.requires.apart c.as_slice-nodes.result.now c.as_slice-nodes.ensures c.loop-n.n-index none c.loop-n-test.true c.loop-n.sketch c.loop-n.lifted c.loop-n.invariant
    c.lift.new.self _ c.lift.ensures refl refl (c.in_ok-push.ensures.items ∙ ap (λ (p : GridPoint). c.loop-n.lifted.moved.items ++ (n, p) ∷ []) c.point-at.ensures) (omega (arith, weight, less)) refl

-- ---- bounds

pub loop-chain-init : goal.loop-chain-init
loop-chain-init c =
    least_begin c.args.field c.requires.field c.args.sketch.now c.args.weight c.requires.settled c.args.group.now c.requires.fitting c.requires.apart c.loop-n.n-index c.loop-n.sketch c.loop-n.lifted (subst (λ (v : List NodeId). length v ≤ c.loop-n.n-index) c.as_slice-nodes.ensures c.loop-n-test.false) c.loop-n.invariant

pub least_turns-requires : goal.least_turns-requires
least_turns-requires c =
    let ready = least_asks c.args.field c.requires.field c.args.sketch.now c.args.weight c.requires.settled c.args.group.now c.requires.fitting c.requires.apart c.as_slice-runs.result.now c.as_slice-runs.ensures c.loop-chain.chain-index c.chain-item.result c.chain-item.is c.loop-chain-test.true c.loop-n.sketch c.loop-chain.lifted c.loop-chain.invariant in
    record { field = c.requires.field; legal = ready.0; run = ready.1 }

pub loop-chain-preserved : goal.loop-chain-preserved
loop-chain-preserved c =
    least_more c.args.field c.requires.field c.args.sketch.now c.args.weight c.requires.settled c.args.group.now c.requires.fitting c.requires.apart c.as_slice-runs.result.now c.as_slice-runs.ensures c.loop-chain.chain-index c.chain-item.result c.chain-item.is c.loop-chain-test.true c.loop-n.sketch c.loop-chain.lifted c.loop-chain.invariant
    _ c.in_ok-least.least c.in_ok-least.ensures.least c.in_ok-least.ensures.small refl refl refl refl c.in_ok-push-2.ensures.items

pub returns : goal.returns
returns c =
    group_lifted c.args.field c.requires.field c.args.sketch.now c.args.weight c.requires.settled c.args.group.now c.requires.fitting c.requires.apart c.loop-chain.chain-index c.loop-n.sketch c.loop-chain.lifted (subst (λ (v : List Chain). length v ≤ c.loop-chain.chain-index) c.as_slice-runs.ensures c.loop-chain-test.false) c.loop-chain.invariant
