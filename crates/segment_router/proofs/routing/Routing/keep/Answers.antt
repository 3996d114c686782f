use Rattle.std.proofs.Common.{◌≡◌, ◌<◌, length, refl, sym, ap, subst, ◌∙◌, arith}
use Rattle.map_base.specs.declared.ids.NodeId.{NodeId}
use Rattle.octi_grid.specs.Walks.{end_point, points_of}
use Rattle.octi_grid.specs.Legal.{is_even}
use Rattle.grid_board.specs.Boards.{is_inside, parts_of}
use Rattle.segment_router.specs.Routes.{ends_of, node_point, with_settled, with_walked}
use Rattle.segment_router.specs.Underway.{routed_of}
use Rattle.segment_router.proofs.OrderLemmas.{read_at}
use Rattle.segment_router.proofs.RouteLemmas.{end_holds, start_holds}
use Rattle.segment_router.proofs.SettledLemmas.{goes}
use Rattle.segment_router.proofs.RoutingLemmas.{all_inside_still, as_many_flags, as_many_points, inside_still, other_before, same_passes, walk_kept}
use Rattle.segment_router.proofs.routing.Routing.keep.Goals as goal

abbrev no_ends : NodeId × NodeId
no_ends = (record { 0 = 0 }, record { 0 = 0 })

pub settle-requires-clause-to_inside : goal.settle-requires-clause-to_inside
settle-requires-clause-to_inside c =
    let r = routed_of c.args.self.now in
    let g = goes c.args.graph.now c.requires.graph r c.requires.underway c.args.seg c.requires.seg c.args.walk c.requires.route in
    same_passes (is_inside r.board) c.start.result c.args.walk.start c.start.ensures (start_holds (is_inside r.board) c.args.walk.start c.args.walk.steps g.route.inside)

pub settle-requires-clause-even : goal.settle-requires-clause-even
settle-requires-clause-even c =
    let r = routed_of c.args.self.now in
    let g = goes c.args.graph.now c.requires.graph r c.requires.underway c.args.seg c.requires.seg c.args.walk c.requires.route in
    same_passes is_even c.start.result c.args.walk.start c.start.ensures (g.route.at_start.even (c.requires.underway.even (ends_of c.args.graph.now c.args.seg).0.0 g.low_node))

pub settle-requires-2-clause-point : goal.settle-requires-2-clause-point
settle-requires-2-clause-point c =
    let r = routed_of c.args.self.now in
    let g = goes c.args.graph.now c.requires.graph r c.requires.underway c.args.seg c.requires.seg c.args.walk c.requires.route in
    let e : ends_of c.args.graph.now c.args.seg ≡ c.ends.result = read_at c.args.graph.now.ends c.args.seg.0 c.ends.result no_ends c.ends.ensures in
    let up : c.ends.result.1.0 < length c.args.graph.now.kinds = subst (λ (v : NodeId × NodeId). v.1.0 < length c.args.graph.now.kinds) e g.up_node in
    omega (arith, up, as_many_points r (routed_of c.settle.new.self) c.ends.result.0.0 c.start.result c.settle.ensures, c.requires.underway.points_each)

pub settle-requires-2-clause-flag : goal.settle-requires-2-clause-flag
settle-requires-2-clause-flag c =
    let r = routed_of c.args.self.now in
    let g = goes c.args.graph.now c.requires.graph r c.requires.underway c.args.seg c.requires.seg c.args.walk c.requires.route in
    let e : ends_of c.args.graph.now c.args.seg ≡ c.ends.result = read_at c.args.graph.now.ends c.args.seg.0 c.ends.result no_ends c.ends.ensures in
    let up : c.ends.result.1.0 < length c.args.graph.now.kinds = subst (λ (v : NodeId × NodeId). v.1.0 < length c.args.graph.now.kinds) e g.up_node in
    omega (arith, up, as_many_flags r (routed_of c.settle.new.self) c.ends.result.0.0 c.start.result c.settle.ensures, c.requires.underway.settled_each)

pub settle-requires-2-clause-from_inside : goal.settle-requires-2-clause-from_inside
settle-requires-2-clause-from_inside c =
    let r = routed_of c.args.self.now in
    let new = routed_of c.settle.new.self in
    let g = goes c.args.graph.now c.requires.graph r c.requires.underway c.args.seg c.requires.seg c.args.walk c.requires.route in
    let e : ends_of c.args.graph.now c.args.seg ≡ c.ends.result = read_at c.args.graph.now.ends c.args.seg.0 c.ends.result no_ends c.ends.ensures in
    let up : c.ends.result.1.0 < length c.args.graph.now.kinds = subst (λ (v : NodeId × NodeId). v.1.0 < length c.args.graph.now.kinds) e g.up_node in
    let order : c.ends.result.0.0 < c.ends.result.1.0 = subst (λ (v : NodeId × NodeId). v.0.0 < v.1.0) e g.order in
    ap (is_inside new.board) (other_before r new c.ends.result.0.0 c.ends.result.1.0 c.start.result c.settle.ensures (λ same. omega (arith, order, same)))
    ∙ inside_still r new c.ends.result.0.0 c.start.result (node_point r c.ends.result.1.0) c.settle.ensures (c.requires.underway.inside c.ends.result.1.0 up)

pub settle-requires-2-clause-to_inside : goal.settle-requires-2-clause-to_inside
settle-requires-2-clause-to_inside c =
    let r = routed_of c.args.self.now in
    let new = routed_of c.settle.new.self in
    let g = goes c.args.graph.now c.requires.graph r c.requires.underway c.args.seg c.requires.seg c.args.walk c.requires.route in
    same_passes (is_inside new.board) c.end_of.result (end_point c.args.walk) c.end_of.ensures
    (inside_still r new c.ends.result.0.0 c.start.result (end_point c.args.walk) c.settle.ensures (end_holds (is_inside r.board) c.args.walk.start c.args.walk.steps g.route.inside))

pub settle-requires-2-clause-even : goal.settle-requires-2-clause-even
settle-requires-2-clause-even c =
    let r = routed_of c.args.self.now in
    let g = goes c.args.graph.now c.requires.graph r c.requires.underway c.args.seg c.requires.seg c.args.walk c.requires.route in
    same_passes is_even c.end_of.result (end_point c.args.walk) c.end_of.ensures (g.route.at_end.even (c.requires.underway.even (ends_of c.args.graph.now c.args.seg).1.0 g.up_node))

pub add_walk-requires : goal.add_walk-requires
add_walk-requires c =
    let r = routed_of c.args.self.now in
    let first = routed_of c.settle.new.self in
    let second = routed_of c.settle-2.new.self in
    let g = goes c.args.graph.now c.requires.graph r c.requires.underway c.args.seg c.requires.seg c.args.walk c.requires.route in
    all_inside_still first second c.ends.result.1.0 c.end_of.result (points_of c.args.walk) c.settle-2.ensures
    (all_inside_still r first c.ends.result.0.0 c.start.result (points_of c.args.walk) c.settle.ensures g.route.inside)

pub returns : goal.returns
returns c =
    let r = routed_of c.args.self.now in
    let e : ends_of c.args.graph.now c.args.seg ≡ c.ends.result = read_at c.args.graph.now.ends c.args.seg.0 c.ends.result no_ends c.ends.ensures in
    walk_kept r (routed_of c.settle.new.self) (routed_of c.settle-2.new.self) c.args.seg c.ends.result.0.0 c.ends.result.1.0 c.args.walk c.start.result c.end_of.result
    (parts_of c.add_walk.new.self) _ c.settle.ensures c.settle-2.ensures c.start.ensures c.end_of.ensures c.add_walk.ensures refl
    ∙ ap (λ (v : NodeId × NodeId). with_walked (with_settled (with_settled r v.0.0 c.args.walk.start) v.1.0 (end_point c.args.walk)) c.args.seg c.args.walk) (sym e)
