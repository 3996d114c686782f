use Rattle.std.proofs.Common.{◌≡◌, ℕ, ◌+◌, ◌<◌, Bool, cond, List, length, get_or, drop, Result, Ok, Err, sym, ap, subst, ◌∙◌, arith}
use Rattle.std.proofs.lemmas.List.{drop_all}
use Rattle.map_base.specs.declared.ids.SegId.{SegId}
use Rattle.octi_grid.specs.declared.point.GridPoint.{GridPoint}
use Rattle.grid_board.specs.declared.bounds.Bounds.{Bounds}
use Rattle.start_positions.specs.Homes.{grid_under}
use Rattle.segment_router.specs.Routes.{none_routed, route_each, walks_of, Routed}
use Rattle.segment_router.specs.Underway.{routed_of, GoesOn, IsUnderway}
use Rattle.segment_router.proofs.Beginning.{underway_begins}
use Rattle.segment_router.proofs.RoutingLemmas.{order_place, routed_more, underway_still}
use Rattle.segment_router.proofs.routing.routes_from.Goals as goal

pub loop-seg-init : goal.loop-seg-init
loop-seg-init c =
    let graph = c.args.graph.now in
    let grid = grid_under c.args.placing.now in
    let begun : routed_of c.in_ok-routing.routing ≡ none_routed grid c.args.placing.now.points (length graph.ends) =
    c.in_ok-routing.ensures
    ∙ ap (λ (b : Bounds). none_routed b c.as_slice.result.now c.segs.result) c.grid_under-grid.ensures
    ∙ ap (λ (ps : List GridPoint). none_routed grid ps c.segs.result) c.as_slice.ensures
    ∙ ap (λ (n : ℕ). none_routed grid c.args.placing.now.points n) c.segs.ensures in
    record {
      underway = subst (IsUnderway graph) (sym begun) (underway_begins graph c.args.placing.now c.requires.placing);
      rest = ap (route_each graph c.args.order.now) begun
          ∙ ap (λ (ss : List SegId). route_each graph ss (none_routed grid c.args.placing.now.points (length graph.ends))) c.requires.order;
    }

pub route-requires-clause-seg : goal.route-requires-clause-seg
route-requires-clause-seg c =
    let few : (get_or c.args.order.now c.loop-seg.seg-index (record { 0 = 0 })).0 < length c.args.graph.now.lines =
    order_place c.args.graph.now.lines c.args.order.now c.loop-seg.seg-index (record { 0 = 0 }) c.requires.order c.loop-seg-test.true in
    omega (arith, few, c.requires.graph.lines_each)

pub route-requires-clause-underway : goal.route-requires-clause-underway
route-requires-clause-underway c = c.loop-seg.invariant.underway

pub returns-then-not-branch : goal.returns-then-not-branch
returns-then-not-branch c =
    let graph = c.args.graph.now in
    let rest = route_each graph (drop (c.loop-seg.seg-index + 1) c.args.order.now) (routed_of c.route.new.self) in
    let stop : Result Routed SegId = Err (get_or c.args.order.now c.loop-seg.seg-index (record { 0 = 0 })) in
    ap walks_of
    (sym c.loop-seg.invariant.rest
    ∙ routed_more graph c.args.order.now c.loop-seg.seg-index (record { 0 = 0 }) (routed_of c.loop-seg.routing) (routed_of c.route.new.self) c.in_ok-route.field-0 c.loop-seg-test.true c.in_ok-route.ensures
    ∙ ap (λ b. cond b rest stop) c.if-not-branch.true)

pub loop-seg-preserved : goal.loop-seg-preserved
loop-seg-preserved c =
    let graph = c.args.graph.now in
    let s : SegId = get_or c.args.order.now c.loop-seg.seg-index (record { 0 = 0 }) in
    let old = routed_of c.loop-seg.routing in
    let new = routed_of c.route.new.self in
    let rest = route_each graph (drop (c.loop-seg.seg-index + 1) c.args.order.now) new in
    let few : s.0 < length graph.lines = order_place graph.lines c.args.order.now c.loop-seg.seg-index (record { 0 = 0 }) c.requires.order c.loop-seg-test.true in
    record {
      underway = underway_still graph c.requires.graph old new c.loop-seg.invariant.underway s (omega (arith, few, c.requires.graph.lines_each))
          (subst (λ (b : Bool). GoesOn graph old s new b) c.if-not-branch.false c.in_ok-route.ensures);
      rest = sym
          (routed_more graph c.args.order.now c.loop-seg.seg-index (record { 0 = 0 }) old new c.in_ok-route.field-0 c.loop-seg-test.true c.in_ok-route.ensures
          ∙ ap (λ b. cond b rest (Err s)) c.if-not-branch.false)
          ∙ c.loop-seg.invariant.rest;
    }

pub returns : goal.returns
returns c =
    let graph = c.args.graph.now in
    let r = routed_of c.loop-seg.routing in
    ap walks_of
    (sym c.loop-seg.invariant.rest
    ∙ ap (λ (ss : List SegId). route_each graph ss r) (drop_all c.loop-seg.seg-index c.args.order.now c.loop-seg-test.false))
    ∙ ap Ok (sym c.in_ok-into_walks.ensures)
