-- The least free walk between two nodes that stand is free between them.
use Rattle.std.proofs.Common.{◌≡◌, sym, ◌∙◌, ap, subst, ℕ, true, false, not, ◌&&◌, List, [], length, get_or, Option, Some, ◌⊎◌, inl, inr}
use Rattle.std.proofs.lemmas.Bool.{and_parts, or_cases, true≢false}
use Rattle.std.specs.List.{filter_map}
use Rattle.map_base.specs.declared.ids.SegId.{SegId}
use Rattle.graph_core.specs.declared.parts.GraphParts.{GraphParts}
use Rattle.octi_grid.specs.declared.dir.Dir.{Dir}
use Rattle.octi_grid.specs.declared.point.GridPoint.{GridPoint}
use Rattle.octi_grid.specs.Ways.{are_one, doubled}
use Rattle.octi_grid.specs.Walks.{doubled_of, end_point, end_port, start_port, PlainWalk}
use Rattle.octi_grid.specs.Legal.{are_clockwise}
use Rattle.octi_grid.proofs.Members.{among_from, any_from, one_point, In}
use Rattle.walk_search.specs.declared.ends.End.{End}
use Rattle.walk_search.specs.Moves.{IsQuestion}
use Rattle.walk_search.specs.Routes.{allows, inner_points, route}
use Rattle.walk_search.proofs.Once.{route_once}
use Rattle.segment_router.specs.Ports.{is_allowed, mask_of, stops_from, with_port}
use Rattle.segment_router.specs.Routes.{end_at, port_at_node}
use Rattle.segment_router.proofs.ClearNodes.{on_walk}
use Rattle.segment_router.proofs.ClockLemmas.{allowed_port, spaced_clockwise, stops_ports}
use Rattle.segment_router.proofs.RouteLemmas.{route_parts, IsRoute}
use Rattle.run_laying.specs.Laying.{board_of, board_under, Sketch}
use Rattle.run_laying.specs.Sketches.{is_standing, point_of_node, walk_in, IsEndOf, IsLegalSketch}
use Rattle.run_laying.proofs.Piecewise.{IsFreeWalk, MeetsAt}
use Rattle.run_laying.proofs.Shown.{board_fits, node_shown, settled_there, taken_shown}

-- a port that a mask allows stands clockwise among the others
allowed_clockwise : (round : List SegId) (f : SegId → Option Dir) (s : SegId) (o : Option Dir) (d : Dir) → allows (mask_of (is_allowed round f s)) o ≡ true → o ≡ Some d → are_clockwise (filter_map (with_port s d f) round) ≡ true
allowed_clockwise round f s o d allowed is = by_port (allowed_port (is_allowed round f s) o allowed)
  where
    by_port : (e : Dir) × (o ≡ Some e) × (is_allowed round f s e ≡ true) → are_clockwise (filter_map (with_port s d f) round) ≡ true
    by_port (e, port, spaced) =
        let both : Some e ≡ Some d = sym port ∙ is in
        let same : e ≡ d = cc in
        ap are_clockwise (sym (stops_ports (with_port s d f) round 0)) ∙ spaced_clockwise (length round) (stops_from 0 (with_port s d f) round) (subst (λ (g : Dir). is_allowed round f s g ≡ true) same spaced)

module _ (graph : GraphParts) (k : Sketch) (h : IsLegalSketch graph k) (n e : ℕ) (s l : SegId) (w : PlainWalk) (from_stands : is_standing k n ≡ true) (to_stands : is_standing k e ≡ true) (differ : n ≡ e → ⊥)
    (is : route (board_of k) (end_at graph (board_under k) s n) (end_at graph (board_under k) l e) ≡ Some w) where
  abbrev from : End
  from = end_at graph (board_under k) s n

  abbrev to : End
  to = end_at graph (board_under k) l e

  r : IsRoute (board_of k) from to w
  r = route_parts (board_of k) from to w is

  from_settled : from.is_free ≡ false
  from_settled = ap not (settled_there graph k h n from_stands)

  to_settled : to.is_free ≡ false
  to_settled = ap not (settled_there graph k h e to_stands)

  starts : w.start ≡ point_of_node k n
  starts = r.at_start.of_settled from_settled

  ends : end_point w ≡ point_of_node k e
  ends = r.at_end.of_settled to_settled

  question : IsQuestion (record { board = board_of k; from = from; to = to })
  question = record {
    board = board_fits graph k h;
    from_node = node_shown graph k h n from_stands;
    to_node = node_shown graph k h e to_stands;
    apart = λ same. differ (h.own n e from_stands to_stands same);
    from_ports = λ free. absurd (true≢false (sym free ∙ from_settled));
    to_ports = λ free. absurd (true≢false (sym free ∙ to_settled));
  }

  is_end : (t : SegId) (v : PlainWalk) (d : GridPoint) (m : ℕ) → walk_in k t ≡ Some v → is_standing k m ≡ true → doubled (point_of_node k m) ≡ d → In d (doubled_of v) → IsEndOf graph t m
  is_end t v d m i stands at j = h.clear t v m i stands (among_from (doubled_of v) (doubled (point_of_node k m)) (subst (λ (q : GridPoint). In q (doubled_of v)) (sym at) j))

  meets : (t : SegId) (v : PlainWalk) (d : GridPoint) → walk_in k t ≡ Some v → In d (doubled_of w) → In d (doubled_of v) → MeetsAt graph k t d n e
  meets t v d i m j = elim (or_cases (not from.is_free && are_one (doubled w.start) d) (not to.is_free && are_one (doubled (end_point w)) d) (r.clear d m (taken_shown k t v d i j))) [
    | inl q ↦ (let at : doubled (point_of_node k n) ≡ d = ap doubled (sym starts) ∙ one_point (doubled w.start) d (and_parts (not from.is_free) (are_one (doubled w.start) d) q).1 in
        inl (at, is_end t v d n i from_stands at j))
    | inr q ↦ (let at : doubled (point_of_node k e) ≡ d = ap doubled (sym ends) ∙ one_point (doubled (end_point w)) d (and_parts (not to.is_free) (are_one (doubled (end_point w)) d) q).1 in
        inr (at, is_end t v d e i to_stands at j))
  ]

  cleared : (m : ℕ) → is_standing k m ≡ true → In (doubled (point_of_node k m)) (doubled_of w) → (m ≡ n) ⊎ (m ≡ e)
  cleared m stands i = which (on_walk w (point_of_node k m) i)
    where
      which : (point_of_node k m ≡ w.start) ⊎ (In (point_of_node k m) (inner_points w) ⊎ (point_of_node k m ≡ end_point w)) → (m ≡ n) ⊎ (m ≡ e)
      which (inl at) = inl (h.own m n stands from_stands (at ∙ starts))
      which (inr (inl inner)) = absurd (true≢false (sym (any_from (board_of k).is_node (inner_points w) (point_of_node k m) inner (node_shown graph k h m stands)) ∙ r.past_nodes))
      which (inr (inr at)) = inr (h.own m e stands to_stands (at ∙ ends))

  pub free_of_route : IsFreeWalk graph k n e s l w
  free_of_route = record {
    from_stands = from_stands;
    to_stands = to_stands;
    differ = differ;
    start = starts;
    end = ends;
    within = r.inside;
    once = route_once (record { board = board_of k; from = from; to = to }) question w is;
    apart = meets;
    clear = cleared;
    leaves = λ d port. allowed_clockwise (get_or graph.rounds n []) (port_at_node graph (board_under k) n) s (start_port w) d r.leaves port;
    arrives = λ d port. allowed_clockwise (get_or graph.rounds e []) (port_at_node graph (board_under k) e) l (end_port w) d r.arrives port;
  }
