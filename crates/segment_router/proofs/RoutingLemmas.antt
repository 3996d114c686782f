-- Routing, step by step.
use mir.Syntax.{w32}
use mir.Val.{of_z, to_z}
use Rattle.std.proofs.Common.{◌≡◌, ℕ, ◌+◌, ◌<◌, ◌≤◌, Bool, true, false, cond, ℤ, pos, List, [], ◌∷◌, ◌++◌, not, length, get_or, set, drop, slice_get, Option, Some, None, Err, sym, refl, ap, subst, ◌∙◌, arith, ◌⊎◌, inl, inr, append_assoc}
use Rattle.std.proofs.lemmas.Bool.{not-true, cond_both}
use Rattle.std.proofs.lemmas.Int.{ints}
use Rattle.std.proofs.lemmas.List.{drop_more, get_or-set_other, get_or_read, length-set}
use Rattle.std.proofs.lemmas.List.Elements.{filter_map-append, All-from_recursion}
use Rattle.std.proofs.lemmas.List.Sorted.{All-permutation}
use Rattle.std.specs.List.{cons_option, filter_map, list_all, All, AllByRecursion}
use Rattle.map_base.specs.declared.ids.LineId.{LineId}
use Rattle.map_base.specs.declared.ids.NodeId.{NodeId}
use Rattle.map_base.specs.declared.ids.SegId.{SegId}
use Rattle.graph_core.specs.declared.parts.GraphParts.{GraphParts}
use Rattle.graph_core.specs.Consistent.{AreEnds, IsConsistent}
use Rattle.graph_core.specs.Round.{ends_at, segments_at, segments_from}
use Rattle.octi_grid.specs.declared.dir.Dir.{Dir}
use Rattle.octi_grid.specs.declared.point.GridPoint.{GridPoint}
use Rattle.grid_board.specs.declared.bounds.Bounds.{Bounds}
use Rattle.octi_grid.specs.Walks.{end_point, PlainWalk}
use Rattle.octi_grid.proofs.Members.{In}
use Rattle.grid_board.specs.Boards.{is_inside, with_node, with_walk, AreBounds, BoardParts, IsBound}
use Rattle.walk_search.specs.declared.ends.End.{End}
use Rattle.walk_search.specs.Moves.{is_all_or_none}
use Rattle.walk_search.specs.Routes.{route}
use Rattle.segment_router.specs.Routes.{after_route, end_at, ends_of, is_settled, node_point, route_each, route_of, with_nodes, with_route, with_settled, with_walked, Routed}
use Rattle.segment_router.specs.Underway.{known_ports, with_known, GoesOn, IsUnderway}
use Rattle.segment_router.specs.Orders.{routing_order}
use Rattle.start_positions.proofs.CellLemmas.{same_bounds}
use Rattle.segment_router.proofs.MaskLemmas.{free_mask}
use Rattle.segment_router.proofs.OrderFacts.{order_in}
use Rattle.segment_router.proofs.Places.{in_at}
use Rattle.segment_router.proofs.OrderLemmas.{read_at}
use Rattle.segment_router.proofs.RouteLemmas.{no_route_from, no_route_to}
use Rattle.segment_router.proofs.SettledLemmas.{goes, underway_more}

-- one node more on a board
pub nodes_more : (board : BoardParts) (homes : List GridPoint) (i : ℕ) (d : GridPoint) → i < length homes → with_nodes board (drop i homes) ≡ with_nodes (with_node board (get_or homes i d)) (drop (i + 1) homes)
nodes_more board homes i d h = ap (with_nodes board) (drop_more homes i d h)

-- one segment more of a round
known_front : (s : SegId) (o : Option Dir) (rest : List (SegId × Dir)) → with_known s o [] ++ rest ≡ with_known s o rest
known_front s None rest = refl
known_front s (Some d) rest = refl

pub known_more : (port_of : SegId → Option Dir) (round : List SegId) (i : ℕ) (d : SegId) (ports : List (SegId × Dir)) → i < length round
    → ports ++ known_ports port_of (drop i round) ≡ (ports ++ with_known (get_or round i d) (port_of (get_or round i d)) []) ++ known_ports port_of (drop (i + 1) round)
known_more port_of round i d ports h =
    ap (λ (v : List SegId). ports ++ known_ports port_of v) (drop_more round i d h)
    ∙ ap (λ (v : List (SegId × Dir)). ports ++ v) (sym (known_front (get_or round i d) (port_of (get_or round i d)) (known_ports port_of (drop (i + 1) round))))
    ∙ sym (append_assoc ports (with_known (get_or round i d) (port_of (get_or round i d)) []) (known_ports port_of (drop (i + 1) round)))

-- one walk more of those that there are
pub push_kept : {X : Type 0} (kept : List X) (seen : List (Option X)) (o : Option X) → kept ≡ filter_map (λ w. w) seen → kept ++ cons_option o [] ≡ filter_map (λ w. w) (seen ++ o ∷ [])
push_kept kept seen o e = ap (λ v. v ++ cons_option o []) e ∙ sym (filter_map-append (λ w. w) seen (o ∷ []))

-- the segments of a round are segments of the graph
within_from : (m n i : ℕ) (es : List (NodeId × NodeId)) → i + length es ≤ m → AllByRecursion (λ (s : SegId). s.0 < m) (segments_from i n es)
within_from m n i [] h = tt
within_from m n i (e ∷ es) h =
    let here : i < m = omega arith in
    let rest = within_from m n (i + 1) es (omega arith) in
    cond_both (ends_at n e) (record { 0 = i } ∷ segments_from (i + 1) n es) (segments_from (i + 1) n es)
    (AllByRecursion (λ (s : SegId). s.0 < m)) (λ t. (here, rest)) (λ t. rest)

pub round_within : (graph : GraphParts) → IsConsistent graph → (n : ℕ) → n < length graph.kinds → (round : List SegId) → get_or graph.rounds n [] ≡ round → (i : ℕ) (d : SegId) → i < length round
    → (get_or round i d).0 < length graph.ends
round_within graph fit n h round e i d k =
    subst (λ (v : List SegId). All (λ (s : SegId). s.0 < length graph.ends) v) e
    (All-permutation (λ (s : SegId). s.0 < length graph.ends) (segments_at n graph.ends) (get_or graph.rounds n []) (fit.rounds n (omega (arith, fit.round_each))).1
    (All-from_recursion (λ (s : SegId). s.0 < length graph.ends) (segments_at n graph.ends) (within_from (length graph.ends) n 0 graph.ends (omega arith)))) i d k

-- a point passes a test, where another name of it does
pub same_passes : (test : GridPoint → Bool) (p q : GridPoint) → p ≡ q → test q ≡ true → test p ≡ true
same_passes test p q e h = ap test e ∙ h

pub inside_still : (r new : Routed) (n : ℕ) (p q : GridPoint) → new ≡ with_settled r n p → is_inside r.board q ≡ true → is_inside new.board q ≡ true
inside_still r new n p q e h = ap (λ (v : Routed). is_inside v.board q) e ∙ h

pub all_inside_still : (r new : Routed) (n : ℕ) (p : GridPoint) (ps : List GridPoint) → new ≡ with_settled r n p → list_all (is_inside r.board) ps ≡ true → list_all (is_inside new.board) ps ≡ true
all_inside_still r new n p ps e h = ap (λ (v : Routed). list_all (is_inside v.board) ps) e ∙ h

pub as_many_points : (r new : Routed) (n : ℕ) (p : GridPoint) → new ≡ with_settled r n p → length new.points ≡ length r.points
as_many_points r new n p e = ap (λ (v : Routed). length v.points) e ∙ length-set r.points n p

pub as_many_flags : (r new : Routed) (n : ℕ) (p : GridPoint) → new ≡ with_settled r n p → length new.settled ≡ length r.settled
as_many_flags r new n p e = ap (λ (v : Routed). length v.settled) e ∙ length-set r.settled n true

pub other_before : (r new : Routed) (n m : ℕ) (p : GridPoint) → new ≡ with_settled r n p → (m ≡ n → ⊥) → node_point new m ≡ node_point r m
other_before r new n m p e f = ap (λ (v : Routed). node_point v m) e ∙ get_or-set_other r.points n m p (record { x = pos 0; y = pos 0 }) f

-- a walk that is kept after both its nodes are settled
pub walk_kept : (r first second : Routed) (s : SegId) (lo up : ℕ) (w : PlainWalk) (p q : GridPoint) (board : BoardParts) (walks : List (Option PlainWalk))
    → first ≡ with_settled r lo p → second ≡ with_settled first up q → p ≡ w.start → q ≡ end_point w → board ≡ with_walk second.board w → walks ≡ set second.walks s.0 (Some w)
    → (let new : Routed = record { board = board; points = second.points; settled = second.settled; walks = walks } in new) ≡ with_walked (with_settled (with_settled r lo w.start) up (end_point w)) s w
walk_kept r first second s lo up w p q board walks e f g h b k =
    ap (λ v. let new : Routed = record { board = v; points = second.points; settled = second.settled; walks = walks } in new) b
    ∙ ap (λ v. let new : Routed = record { board = with_walk second.board w; points = second.points; settled = second.settled; walks = v } in new) k
    ∙ ap (λ v. with_walked v s w) (f ∙ ap (λ v. with_settled v up q) e ∙ ap (λ v. with_settled (with_settled r lo v) up q) g ∙ ap (λ v. with_settled (with_settled r lo w.start) up v) h)

-- the ends of a segment, as they are read
pub record AreBetween (graph : GraphParts) (s : SegId) (ends : NodeId × NodeId) : Type 0 where
  pub are : ends_of graph s ≡ ends
  pub low_node : ends.0.0 < length graph.kinds
  pub up_node : ends.1.0 < length graph.kinds
  pub order : ends.0.0 < ends.1.0

pub between : (graph : GraphParts) → IsConsistent graph → (s : SegId) → s.0 < length graph.ends → (ends : NodeId × NodeId) → slice_get graph.ends s.0 ≡ Some ends → AreBetween graph s ends
between graph fit s h ends e =
    let none : NodeId × NodeId = (record { 0 = 0 }, record { 0 = 0 }) in
    let are : ends_of graph s ≡ ends = read_at graph.ends s.0 ends none e in
    let fits : AreEnds (length graph.kinds) ends = subst (AreEnds (length graph.kinds)) are (fit.ends s.0 none h) in
    record { are = are; low_node = omega (arith, fits.0, fits.1); up_node = fits.1; order = fits.0 }

-- an end as it is read
pub end_is : (graph : GraphParts) (r : Routed) (seg : SegId) (n : ℕ) (p : GridPoint) (settled : Bool) (ports : ℕ) → n < length r.points → n < length r.settled
    → p ≡ get_or r.points n p → settled ≡ get_or r.settled n settled → ports ≡ (end_at graph r seg n).ports
    → (let end : End = record { at = p; is_free = not settled; ports = ports } in end) ≡ end_at graph r seg n
end_is graph r seg n p settled ports h k e f g =
    ap (λ v. let end : End = record { at = v; is_free = not settled; ports = ports } in end) (get_or_read r.points n p h e (record { x = pos 0; y = pos 0 }))
    ∙ ap (λ v. let end : End = record { at = node_point r n; is_free = not v; ports = ports } in end) (get_or_read r.settled n settled k f false)
    ∙ ap (λ v. let end : End = record { at = node_point r n; is_free = not (is_settled r n); ports = v } in end) g

pub route_between : (graph : GraphParts) (r : Routed) (s : SegId) (ends : NodeId × NodeId) → AreBetween graph s ends → (from to : End) → from ≡ end_at graph r s ends.0.0 → to ≡ end_at graph r s ends.1.0
    → route r.board from to ≡ route_of graph r s
route_between graph r s ends b from to e f =
    ap (λ v. route r.board v to) e ∙ ap (λ v. route r.board (end_at graph r s ends.0.0) v) f
    ∙ ap (λ (v : NodeId × NodeId). route r.board (end_at graph r s v.0.0) (end_at graph r s v.1.0)) (sym b.are)

-- no route, where an end has no allowed port
pub none_between : (graph : GraphParts) (r : Routed) (s : SegId) (ends : NodeId × NodeId) → AreBetween graph s ends → (from_ports to_ports : ℕ)
    → from_ports ≡ (end_at graph r s ends.0.0).ports → to_ports ≡ (end_at graph r s ends.1.0).ports → (from_ports ≡ 0) ⊎ (to_ports ≡ 0) → None ≡ route_of graph r s
none_between graph r s ends b from_ports to_ports e f (inl h) =
    sym (no_route_from r.board (end_at graph r s ends.0.0) (end_at graph r s ends.1.0) (sym e ∙ h)) ∙ route_between graph r s ends b (end_at graph r s ends.0.0) (end_at graph r s ends.1.0) refl refl
none_between graph r s ends b from_ports to_ports e f (inr h) =
    sym (no_route_to r.board (end_at graph r s ends.0.0) (end_at graph r s ends.1.0) (sym f ∙ h)) ∙ route_between graph r s ends b (end_at graph r s ends.0.0) (end_at graph r s ends.1.0) refl refl

-- the mask of an end that is free
pub mask_read : (graph : GraphParts) → IsConsistent graph → (r : Routed) → IsUnderway graph r → (seg : SegId) (n : ℕ) (settled : Bool) (ports : ℕ) → n < length graph.kinds
    → settled ≡ get_or r.settled n settled → ports ≡ (end_at graph r seg n).ports → not settled ≡ true → is_all_or_none ports ≡ true
mask_read graph fit r underway seg n settled ports h e f t =
    ap is_all_or_none f ∙ free_mask graph fit r underway n h seg (sym (get_or_read r.settled n settled (omega (arith, underway.settled_each)) e false) ∙ not-true _ t)

-- two nodes' points, as they are read
pub point_read : (graph : GraphParts) (r : Routed) → IsUnderway graph r → (n : ℕ) (p : GridPoint) → n < length graph.kinds → p ≡ get_or r.points n p → p ≡ node_point r n
point_read graph r underway n p h e = get_or_read r.points n p (omega (arith, underway.points_each)) e (record { x = pos 0; y = pos 0 })

-- one segment more that is routed
pub routed_more : (graph : GraphParts) (order : List SegId) (i : ℕ) (d : SegId) (r new : Routed) (found : Bool) → i < length order → GoesOn graph r (get_or order i d) new found
    → route_each graph (drop i order) r ≡ cond found (route_each graph (drop (i + 1) order) new) (Err (get_or order i d))
routed_more graph order i d r new found h on = ap (λ (ss : List SegId). route_each graph ss r) (drop_more order i d h) ∙ by_found found on
  where
    by_found : (b : Bool) → GoesOn graph r (get_or order i d) new b
        → after_route (get_or order i d) (λ w. route_each graph (drop (i + 1) order) (with_route graph r (get_or order i d) w)) (route_of graph r (get_or order i d))
        ≡ cond b (route_each graph (drop (i + 1) order) new) (Err (get_or order i d))
    by_found true (w, e, f) =
        ap (after_route (get_or order i d) (λ w. route_each graph (drop (i + 1) order) (with_route graph r (get_or order i d) w))) e
        ∙ ap (route_each graph (drop (i + 1) order)) (sym f)
    by_found false e = ap (after_route (get_or order i d) (λ w. route_each graph (drop (i + 1) order) (with_route graph r (get_or order i d) w))) e

-- routing stays under way
pub underway_still : (graph : GraphParts) → IsConsistent graph → (r new : Routed) → IsUnderway graph r → (s : SegId) → s.0 < length graph.ends → GoesOn graph r s new true → IsUnderway graph new
underway_still graph fit r new underway s h (w, e, f) = subst (IsUnderway graph) (sym f) (underway_more graph r s w (goes graph fit r underway s h w e))

-- bounds, as they are read
pub bounds_read : (b : Bounds) → AreBounds b
    → (let v : Bounds = record { left = to_z w32 (of_z w32 b.left); right = to_z w32 (of_z w32 b.right); bottom = to_z w32 (of_z w32 b.bottom); top = to_z w32 (of_z w32 b.top) } in v) ≡ b
bounds_read b fit = same_bounds (bound_read b.left fit.left) (bound_read b.right fit.right) (bound_read b.bottom fit.bottom) (bound_read b.top fit.top)
  where
    bound_read : (z : ℤ) → IsBound z → to_z w32 (of_z w32 z) ≡ z
    bound_read z h = omega (arith, ints)

-- a segment of the order
pub order_place : (lines : List (List LineId)) (order : List SegId) (i : ℕ) (d : SegId) → order ≡ routing_order lines → i < length order → (get_or order i d).0 < length lines
order_place lines order i d e h = order_in lines (get_or order i d) (subst (λ (v : List SegId). In (get_or order i d) v) e (in_at order i d h))
