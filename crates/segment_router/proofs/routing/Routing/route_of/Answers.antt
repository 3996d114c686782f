use Rattle.std.proofs.Common.{◌≡◌, Option, not, sym, ap, subst, ◌∙◌, arith, inl, inr}
use Rattle.std.specs.Prelude.{IfOk}
use Rattle.octi_grid.specs.Walks.{PlainWalk}
use Rattle.segment_router.specs.Underway.{routed_of}
use Rattle.segment_router.proofs.RoutingLemmas.{between, end_is, mask_read, none_between, point_read, route_between}
use Rattle.segment_router.proofs.routing.Routing.route_of.Goals as goal

pub returns-then-from_ports-eq0 : goal.returns-then-from_ports-eq0
returns-then-from_ports-eq0 c =
    let b = between c.args.graph.now c.requires.graph c.args.seg c.requires.seg c.ends.result c.ends.ensures in
    none_between c.args.graph.now (routed_of c.args.self.now) c.args.seg c.ends.result b c.in_ok-from_ports.from_ports c.in_ok-to_ports.to_ports
    c.in_ok-from_ports.ensures c.in_ok-to_ports.ensures (elim c.then-from_ports-eq0.either [ inl e ↦ inl e | inr e ↦ inr e.1 ])

pub least_settled_walk-requires-clause-from : goal.least_settled_walk-requires-clause-from
least_settled_walk-requires-clause-from c =
    let r = routed_of c.args.self.now in
    let b = between c.args.graph.now c.requires.graph c.args.seg c.requires.seg c.ends.result c.ends.ensures in
    ap r.board.is_node (point_read c.args.graph.now r c.requires.underway c.ends.result.0.0 c.index.result.now b.low_node c.index.ensures) ∙ c.requires.underway.on_board c.ends.result.0.0 b.low_node

pub least_settled_walk-requires-clause-to : goal.least_settled_walk-requires-clause-to
least_settled_walk-requires-clause-to c =
    let r = routed_of c.args.self.now in
    let b = between c.args.graph.now c.requires.graph c.args.seg c.requires.seg c.ends.result c.ends.ensures in
    ap r.board.is_node (point_read c.args.graph.now r c.requires.underway c.ends.result.1.0 c.index-3.result.now b.up_node c.index-3.ensures) ∙ c.requires.underway.on_board c.ends.result.1.0 b.up_node

pub least_settled_walk-requires-clause-apart : goal.least_settled_walk-requires-clause-apart
least_settled_walk-requires-clause-apart c =
    let r = routed_of c.args.self.now in
    let b = between c.args.graph.now c.requires.graph c.args.seg c.requires.seg c.ends.result c.ends.ensures in
    λ e.
    let same : c.ends.result.0.0 ≡ c.ends.result.1.0 =
    c.requires.underway.apart c.ends.result.0.0 c.ends.result.1.0 b.low_node b.up_node
    (sym (point_read c.args.graph.now r c.requires.underway c.ends.result.0.0 c.index.result.now b.low_node c.index.ensures) ∙ e
    ∙ point_read c.args.graph.now r c.requires.underway c.ends.result.1.0 c.index-3.result.now b.up_node c.index-3.ensures) in
    omega (arith, b.order, same)

pub least_settled_walk-requires-clause-from_mask :
    goal.least_settled_walk-requires-clause-from_mask
least_settled_walk-requires-clause-from_mask c =
    let b = between c.args.graph.now c.requires.graph c.args.seg c.requires.seg c.ends.result c.ends.ensures in
    λ t.
    mask_read c.args.graph.now c.requires.graph (routed_of c.args.self.now) c.requires.underway c.args.seg c.ends.result.0.0 c.index-2.result.now c.in_ok-from_ports.from_ports b.low_node
    c.index-2.ensures c.in_ok-from_ports.ensures t

pub least_settled_walk-requires-clause-to_mask : goal.least_settled_walk-requires-clause-to_mask
least_settled_walk-requires-clause-to_mask c =
    let b = between c.args.graph.now c.requires.graph c.args.seg c.requires.seg c.ends.result c.ends.ensures in
    λ t.
    mask_read c.args.graph.now c.requires.graph (routed_of c.args.self.now) c.requires.underway c.args.seg c.ends.result.1.0 c.index-4.result.now c.in_ok-to_ports.to_ports b.up_node
    c.index-4.ensures c.in_ok-to_ports.ensures t

pub returns : goal.returns
returns c =
    let graph = c.args.graph.now in
    let r = routed_of c.args.self.now in
    let b = between graph c.requires.graph c.args.seg c.requires.seg c.ends.result c.ends.ensures in
    subst (λ (v : Option PlainWalk). IfOk c.least_settled_walk.result (λ walk. walk ≡ v))
    (route_between graph r c.args.seg c.ends.result b
    (record { at = c.index.result.now; is_free = not c.index-2.result.now; ports = c.in_ok-from_ports.from_ports })
    (record { at = c.index-3.result.now; is_free = not c.index-4.result.now; ports = c.in_ok-to_ports.to_ports })
    (end_is graph r c.args.seg c.ends.result.0.0 c.index.result.now c.index-2.result.now c.in_ok-from_ports.from_ports (omega (arith, b.low_node, c.requires.underway.points_each)) (omega (arith, b.low_node, c.requires.underway.settled_each))
    c.index.ensures c.index-2.ensures c.in_ok-from_ports.ensures)
    (end_is graph r c.args.seg c.ends.result.1.0 c.index-3.result.now c.index-4.result.now c.in_ok-to_ports.to_ports (omega (arith, b.up_node, c.requires.underway.points_each)) (omega (arith, b.up_node, c.requires.underway.settled_each))
    c.index-3.ensures c.index-4.ensures c.in_ok-to_ports.ensures))
    c.least_settled_walk.ensures
