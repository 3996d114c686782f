-- Routes stay on the grid of their placing.
use Rattle.std.proofs.Common.{◌≡◌, ℕ, suc, true, List, [], ◌∷◌, Option, Some, None, Result, Ok, Err, length, get_or, ap, refl, sym, subst, arith, inl, inr}
use Rattle.std.specs.List.{cons_option, filter_map, list_all}
use Rattle.map_base.specs.declared.ids.SegId.{SegId}
use Rattle.graph_core.specs.declared.parts.GraphParts.{GraphParts}
use Rattle.graph_core.specs.Consistent.{IsConsistent}
use Rattle.octi_grid.specs.declared.point.GridPoint.{GridPoint}
use Rattle.octi_grid.specs.Walks.{points_of, PlainWalk}
use Rattle.octi_grid.proofs.Members.{all_at, all_from, In}
use Rattle.grid_board.specs.Boards.{contains, empty_board}
use Rattle.grid_board.specs.Points.{are_near, is_near}
use Rattle.start_positions.specs.declared.placing.Placing.{Placing}
use Rattle.start_positions.specs.Homes.{grid_under, IsPlacing}
use Rattle.segment_router.specs.Orders.{routing_order}
use Rattle.segment_router.specs.Routes.{begun, route_each, routes_from, walk_at, walks_of, Routed}
use Rattle.segment_router.proofs.Again.{again}
use Rattle.segment_router.proofs.Beginning.{bounds_stay}
use Rattle.segment_router.proofs.LegalRoutes.{laid_begins, no_walk}
use Rattle.segment_router.proofs.OrderFacts.{order_in}
use Rattle.segment_router.proofs.Places.{seg_at}

-- a walk that is there is that of a place
there_at : (ws : List (Option PlainWalk)) (w : PlainWalk) → In w (filter_map (λ v. v) ws) → (i : ℕ) × (get_or ws i None ≡ Some w)
there_at [] w m = absurd m
there_at (o ∷ ws) w m = by_walk o m (λ k. let rest = there_at ws w k in (suc rest.0, rest.1))
  where
    by_walk : (o : Option PlainWalk) → In w (cons_option o (filter_map (λ v. v) ws)) → (In w (filter_map (λ v. v) ws) → (i : ℕ) × (get_or (o ∷ ws) i None ≡ Some w)) → (i : ℕ) × (get_or (o ∷ ws) i None ≡ Some w)
    by_walk None k rest = rest k
    by_walk (Some v) (inl e) rest = (0, ap Some (sym e))
    by_walk (Some v) (inr k) rest = rest k

pub routes_near : (graph : GraphParts) (placing : Placing) (walks : List PlainWalk) (most : ℕ) → IsConsistent graph → IsPlacing graph placing
    → ((p : GridPoint) → contains (grid_under placing) p ≡ true → is_near most p ≡ true) → routes_from graph placing ≡ Ok walks → are_near most walks ≡ true
routes_near graph placing walks most fit placed near e = by_end (route_each graph (routing_order graph.lines) (begun graph placing)) refl e
  where
    within : (r : Routed) → route_each graph (routing_order graph.lines) (begun graph placing) ≡ Ok r → (s : SegId) (w : PlainWalk) → walk_at r s ≡ Some w → list_all (contains (grid_under placing)) (points_of w) ≡ true
    within r is =
        (again graph fit (grid_under placing) (routing_order graph.lines) (begun graph placing) r (laid_begins graph placing placed) (λ s m. omega (arith, order_in graph.lines s m, fit.lines_each))
        (bounds_stay placing.points (empty_board (grid_under placing))) (λ s w e. no_walk (length graph.ends) s.0 w e) is).within

    all_near : (r : Routed) → route_each graph (routing_order graph.lines) (begun graph placing) ≡ Ok r → are_near most (filter_map (λ w. w) r.walks) ≡ true
    all_near r is =
        all_from (λ (w : PlainWalk). list_all (is_near most) (points_of w)) (filter_map (λ w. w) r.walks)
        (λ w m. let at = there_at r.walks w m in all_from (is_near most) (points_of w) (λ p k. near p (all_at (contains (grid_under placing)) (points_of w) p (within r is (seg_at at.0) w at.1) k)))

    by_end : (o : Result Routed SegId) → route_each graph (routing_order graph.lines) (begun graph placing) ≡ o → walks_of o ≡ Ok walks → are_near most walks ≡ true
    by_end (Err s) is clash = cc
    by_end (Ok r) is same =
        let one : filter_map (λ w. w) r.walks ≡ walks = cc in
        subst (λ (ws : List PlainWalk). are_near most ws ≡ true) one (all_near r is)
