-- What the board of routing under way shows: the points of the nodes, and the doubled points of the walks. Homes stay free.
use Rattle.std.proofs.Common.{◌≡◌, ℕ, zero, suc, ◌<◌, true, false, not, ◌&&◌, ◌||◌, pos, List, [], ◌∷◌, length, get_or, set, take, Option, Some, None, Ok, sym, refl, ap, subst, ◌∙◌, arith, ◌⊎◌, inl, inr}
use Rattle.std.proofs.lemmas.Bool.{and_from, and_parts, cases_eq, not-true, not_from_false, or_cases, or_from, or_left, true≢false, false≢true}
use Rattle.std.specs.List.{list_any}
use Rattle.map_base.specs.declared.ids.SegId.{SegId}
use Rattle.graph_core.specs.declared.parts.GraphParts.{GraphParts}
use Rattle.graph_core.specs.Consistent.{IsConsistent}
use Rattle.octi_grid.specs.declared.point.GridPoint.{GridPoint}
use Rattle.octi_grid.specs.Ways.{are_one, doubled}
use Rattle.octi_grid.specs.Walks.{doubled_of, end_point, PlainWalk}
use Rattle.octi_grid.specs.Legal.{is_among}
use Rattle.octi_grid.proofs.Members.{among_at, among_from, any_at, any_from, are_one-refl, not_among, one_point, same_test, In}
use Rattle.grid_board.specs.Boards.{empty_board, with_node, BoardParts}
use Rattle.walk_search.specs.Seats.{is_free_seat}
use Rattle.start_positions.specs.declared.placing.Placing.{Placing}
use Rattle.start_positions.specs.Homes.{grid_under}
use Rattle.segment_router.specs.Orders.{routing_order}
use Rattle.segment_router.specs.Routes.{after_route, begun, ends_of, has_doubled, is_settled, node_point, route_each, route_of, routed_after, walk_at, with_nodes, with_route, Routed}
use Rattle.start_positions.specs.Homes.{IsPlacing}
use Rattle.segment_router.proofs.Beginning.{nothing_there, taken_stays}
use Rattle.segment_router.proofs.ClearNodes.{walk_clear}
use Rattle.segment_router.proofs.LaidLemmas.{laid_more, IsLaid}
use Rattle.segment_router.proofs.LegalRoutes.{laid_begins}
use Rattle.segment_router.proofs.OrderFacts.{order_in, order_once, AreOnce}
use Rattle.segment_router.proofs.OrderLemmas.{read_at}
use Rattle.segment_router.proofs.Places.{in_at, place_of, same_seg, seg_at}
use Rattle.segment_router.proofs.SettledLemmas.{goes, low_point, low_settled, other_point, other_settled, other_walk, own_walk, up_before, up_point, up_settled, which_node, Goes}

-- a node at a point
pub record NodeAt (graph : GraphParts) (r : Routed) (p : GridPoint) : Type 0 where
  pub node : ℕ
  pub within : node < length graph.kinds
  pub there : node_point r node ≡ p

-- a walk with a doubled point
pub record WalkWith (r : Routed) (d : GridPoint) : Type 0 where
  pub segment : SegId
  pub walk : PlainWalk
  pub is : walk_at r segment ≡ Some walk
  pub has : In d (doubled_of walk)

-- what the board shows is what was routed
pub record IsShown (graph : GraphParts) (r : Routed) : Type 0 where
  pub laid : IsLaid graph r
  pub node_at : (p : GridPoint) → r.board.is_node p ≡ true → NodeAt graph r p
  pub walk_with : (d : GridPoint) → r.board.is_taken d ≡ true → WalkWith r d
  pub home_clear : (n : ℕ) → n < length graph.kinds → is_settled r n ≡ false → r.board.is_taken (doubled (node_point r n)) ≡ false

-- at first
home_at : (homes : List GridPoint) (board : BoardParts) (p d : GridPoint) → (with_nodes board homes).is_node p ≡ true → (board.is_node p ≡ true) ⊎ ((n : ℕ) × (n < length homes) × (get_or homes n d ≡ p))
home_at [] board p d e = inl e
home_at (q ∷ homes) board p d e = elim (home_at homes (with_node board q) p d e) [
  | inl h ↦ elim (or_cases (are_one q p) (board.is_node p) h) [
    | inl k ↦ inr (0, omega arith, one_point q p k)
    | inr k ↦ inl k
  ]
  | inr h ↦ inr (suc h.0, omega (arith, h.1), h.2)
]

shown_begins : (graph : GraphParts) (placing : Placing) → IsPlacing graph placing → IsShown graph (begun graph placing)
shown_begins graph placing fit = record {
  laid = laid_begins graph placing fit;
  node_at =
      λ p e. elim (home_at placing.points (empty_board (grid_under placing)) p (record { x = pos 0; y = pos 0 }) e) [
        | inl none ↦ absurd (false≢true none)
        | inr h ↦ record { node = h.0; within = omega (arith, h.1, fit.one_each); there = h.2 }
      ];
  walk_with = λ d e. absurd (false≢true (sym (taken_stays placing.points (empty_board (grid_under placing)) d) ∙ e));
  home_clear = λ n h f. taken_stays placing.points (empty_board (grid_under placing)) (doubled (node_point (begun graph placing) n));
}

-- one walk more
node_then : (graph : GraphParts) (r : Routed) (s : SegId) (w : PlainWalk) → Goes graph r s w → ((p : GridPoint) → r.board.is_node p ≡ true → NodeAt graph r p) → (p : GridPoint)
    → (with_route graph r s w).board.is_node p ≡ true → NodeAt graph (with_route graph r s w) p
node_then graph r s w g before p e = elim (or_cases (are_one (end_point w) p) (not (are_one (get_or (set r.points (ends_of graph s).0.0 w.start) (ends_of graph s).1.0 (record { x = pos 0; y = pos 0 })) p) && (are_one w.start p || (not (are_one (node_point r (ends_of graph s).0.0) p) && r.board.is_node p))) e) [
  | inl h ↦ at_up h
  | inr h ↦ (let parts = and_parts _ _ h in by_old (ap (λ (c : GridPoint). are_one c p) (sym (up_before graph r s w g)) ∙ not-true _ parts.0) (or_cases _ _ parts.1))
]
  where
    at_low : are_one w.start p ≡ true → NodeAt graph (with_route graph r s w) p
    at_low h = record { node = (ends_of graph s).0.0; within = g.low_node; there = low_point graph r s w g ∙ one_point w.start p h }

    at_up : are_one (end_point w) p ≡ true → NodeAt graph (with_route graph r s w) p
    at_up h = record { node = (ends_of graph s).1.0; within = g.up_node; there = up_point graph r s w g ∙ one_point (end_point w) p h }

    -- a point that a node has left
    left : (n : ℕ) → are_one (node_point r n) p ≡ false → (a : NodeAt graph r p) → a.node ≡ n → ⊥
    left n f a same = true≢false (sym (ap (λ (v : GridPoint). are_one v p) (ap (node_point r) (sym same) ∙ a.there) ∙ are_one-refl p) ∙ f)

    other : are_one (node_point r (ends_of graph s).0.0) p ≡ false → are_one (node_point r (ends_of graph s).1.0) p ≡ false → NodeAt graph r p → NodeAt graph (with_route graph r s w) p
    other f h a = record {
      node = a.node;
      within = a.within;
      there = other_point graph r s w a.node (left (ends_of graph s).0.0 f a) (left (ends_of graph s).1.0 h a) ∙ a.there;
    }

    by_old : are_one (node_point r (ends_of graph s).1.0) p ≡ false → (are_one w.start p ≡ true) ⊎ ((not (are_one (node_point r (ends_of graph s).0.0) p) && r.board.is_node p) ≡ true) → NodeAt graph (with_route graph r s w) p
    by_old f (inl h) = at_low h
    by_old f (inr h) = let parts = and_parts _ _ h in other (not-true _ parts.0) f (before p parts.1)

shown_more : (graph : GraphParts) → IsConsistent graph → (r : Routed) → IsShown graph r → (s : SegId) → s.0 < length graph.ends → walk_at r s ≡ None → (w : PlainWalk) → route_of graph r s ≡ Some w
    → IsShown graph (with_route graph r s w)
shown_more graph fit r shown s h none w e =
    let g = goes graph fit r shown.laid.underway s h w e in
    record {
      laid = laid_more graph fit r shown.laid s h w e;
      node_at = node_then graph r s w g shown.node_at;
      walk_with = λ d t. by_walk g d (or_cases _ _ t);
      home_clear = λ n k f. by_node g n k f (which_node (ends_of graph s).0.0 (ends_of graph s).1.0 n);
    }
  where
    kept : (t : SegId) (v : PlainWalk) → walk_at r t ≡ Some v → (t.0 ≡ s.0) ⊎ (t.0 ≡ s.0 → ⊥) → walk_at (with_route graph r s w) t ≡ Some v
    kept t v k (inl same) = let clash : (let o : Option PlainWalk = None in o) ≡ Some v = sym none ∙ ap (λ i. get_or r.walks i None) (sym same) ∙ k in cc
    kept t v k (inr f) = other_walk graph r s w t f ∙ k

    by_walk : Goes graph r s w → (d : GridPoint) → (is_among (doubled_of w) d ≡ true) ⊎ (r.board.is_taken d ≡ true) → WalkWith (with_route graph r s w) d
    by_walk g d (inl t) = record { segment = s; walk = w; is = own_walk graph r s w g s refl; has = among_at (doubled_of w) d t }
    by_walk g d (inr t) =
        let old = shown.walk_with d t in
        record { segment = old.segment; walk = old.walk; is = kept old.segment old.walk old.is (cases_eq old.segment.0 s.0); has = old.has }

    settled_low : Goes graph r s w → (n : ℕ) → n ≡ (ends_of graph s).0.0 → is_settled (with_route graph r s w) n ≡ false → ⊥
    settled_low g n k f = true≢false (sym (ap (is_settled (with_route graph r s w)) k ∙ low_settled graph r s w g) ∙ f)

    settled_up : Goes graph r s w → (n : ℕ) → n ≡ (ends_of graph s).1.0 → is_settled (with_route graph r s w) n ≡ false → ⊥
    settled_up g n k f = true≢false (sym (ap (is_settled (with_route graph r s w)) k ∙ up_settled graph r s w g) ∙ f)

    by_node : Goes graph r s w → (n : ℕ) → n < length graph.kinds → is_settled (with_route graph r s w) n ≡ false
        → (n ≡ (ends_of graph s).0.0) ⊎ ((n ≡ (ends_of graph s).1.0) ⊎ ((n ≡ (ends_of graph s).0.0 → ⊥) × (n ≡ (ends_of graph s).1.0 → ⊥)))
        → (with_route graph r s w).board.is_taken (doubled (node_point (with_route graph r s w) n)) ≡ false
    by_node g n k f (inl a) = absurd (settled_low g n a f)
    by_node g n k f (inr (inl a)) = absurd (settled_up g n a f)
    by_node g n k f (inr (inr a)) =
        ap (λ p. (with_route graph r s w).board.is_taken (doubled p)) (other_point graph r s w n a.0 a.1)
        ∙ or_from _ _ (not_among (doubled_of w) (doubled (node_point r n)) (walk_clear graph r s w g n k a.0 a.1))
        (shown.home_clear n k (sym (other_settled graph r s w n a.0 a.1) ∙ f))

-- after each of the segments of a list
shown_each : (graph : GraphParts) → IsConsistent graph → (order : List SegId) (old r : Routed) → IsShown graph old → AreOnce order → ((s : SegId) → In s order → s.0 < length graph.ends)
    → ((s : SegId) → In s order → walk_at old s ≡ None) → route_each graph order old ≡ Ok r → IsShown graph r
shown_each graph fit [] old r shown once within none e = let same : old ≡ r = cc in subst (IsShown graph) same shown
shown_each graph fit (s ∷ order) old r shown once within none e =
    by_route (route_of graph old s) refl e (λ w k next. shown_each graph fit order (with_route graph old s w) r (shown_more graph fit old shown s (within s (inl refl)) (none s (inl refl)) w k) once.1
    (λ t m. within t (inr m)) (λ t m. other_walk graph old s w t (other t m) ∙ none t (inr m)) next)
  where
    other : (t : SegId) → In t order → t.0 ≡ s.0 → ⊥
    other t m h = once.0 (subst (λ (u : SegId). In u order) (same_seg t s h) m)

    by_route : (o : Option PlainWalk) → route_of graph old s ≡ o → after_route s (λ w. route_each graph order (with_route graph old s w)) o ≡ Ok r
        → ((w : PlainWalk) → route_of graph old s ≡ Some w → route_each graph order (with_route graph old s w) ≡ Ok r → IsShown graph r) → IsShown graph r
    by_route None k clash rest = cc
    by_route (Some w) k next rest = rest w k next

in_take : (k : ℕ) (ss : List SegId) (s : SegId) → In s (take k ss) → In s ss
in_take zero ss s m = absurd m
in_take (suc k) [] s m = absurd m
in_take (suc k) (t ∷ ss) s (inl e) = inl e
in_take (suc k) (t ∷ ss) s (inr m) = inr (in_take k ss s m)

once_take : (k : ℕ) (ss : List SegId) → AreOnce ss → AreOnce (take k ss)
once_take zero ss e = tt
once_take (suc k) [] e = tt
once_take (suc k) (t ∷ ss) e = (λ m. e.0 (in_take k ss t m), once_take k ss e.1)

shown_after : (graph : GraphParts) → IsConsistent graph → (placing : Placing) → IsPlacing graph placing → (k : ℕ) (r : Routed) → routed_after graph placing k ≡ Ok r → IsShown graph r
shown_after graph fit placing placed k r e =
    shown_each graph fit (take k (routing_order graph.lines)) (begun graph placing) r (shown_begins graph placing placed) (once_take k (routing_order graph.lines) (order_once graph.lines))
    (λ s m. omega (arith, order_in graph.lines s (in_take k (routing_order graph.lines) s m), fit.lines_each)) (λ s m. nothing_there (length graph.ends) s.0) e

-- the home of a node that is not settled is one of its seats
pub home_free : (graph : GraphParts) (placing : Placing) (k : ℕ) (r : Routed) (n : ℕ) → IsConsistent graph → IsPlacing graph placing → routed_after graph placing k ≡ Ok r → n < length graph.kinds → is_settled r n ≡ false
    → is_free_seat r.board (node_point r n) (node_point r n) ≡ true
home_free graph placing k r n fit placed e h free =
    let shown = shown_after graph fit placing placed k r e in
    and_from _ _
    (and_from _ _ (shown.laid.underway.inside n h) (or_left _ _ (are_one-refl (node_point r n))))
    (not_from_false _ (shown.home_clear n h free))

-- the board shows the points of nodes and the doubled points of walks
pub nodes_shown : (graph : GraphParts) (placing : Placing) (k : ℕ) (r : Routed) (p : GridPoint) → IsConsistent graph → IsPlacing graph placing → routed_after graph placing k ≡ Ok r → r.board.is_node p ≡ is_among r.points p
nodes_shown graph placing k r p fit placed e =
    let shown = shown_after graph fit placing placed k r e in
    same_test _ _
    (λ t. let a = shown.node_at p t in
    among_from r.points p (subst (λ v. In v r.points) a.there (in_at r.points a.node (record { x = pos 0; y = pos 0 }) (omega (arith, a.within, shown.laid.underway.points_each)))))
    (λ t. let a = place_of r.points p (among_at r.points p t) in
    ap r.board.is_node (sym (read_at r.points a.at p (record { x = pos 0; y = pos 0 }) a.there)) ∙ shown.laid.underway.on_board a.at (omega (arith, a.below, shown.laid.underway.points_each)))

some_there : (walks : List (Option PlainWalk)) (i : ℕ) (w : PlainWalk) → get_or walks i None ≡ Some w → i < length walks
some_there [] i w e = cc
some_there (o ∷ walks) zero w e = omega arith
some_there (o ∷ walks) (suc i) w e = omega (arith, some_there walks i w e)

pub walks_shown : (graph : GraphParts) (placing : Placing) (k : ℕ) (r : Routed) (d : GridPoint) → IsConsistent graph → IsPlacing graph placing → routed_after graph placing k ≡ Ok r
    → r.board.is_taken d ≡ list_any (has_doubled d) r.walks
walks_shown graph placing k r d fit placed e =
    let shown = shown_after graph fit placing placed k r e in
    same_test _ _
    (λ t. there (shown.walk_with d t))
    (λ t. let a = any_at (has_doubled d) r.walks t in let p = place_of r.walks a.0 a.1 in back shown p.at a.0 (read_at r.walks p.at a.0 None p.there) a.2)
  where
    there : WalkWith r d → list_any (has_doubled d) r.walks ≡ true
    there a =
        any_from (has_doubled d) r.walks (Some a.walk) (subst (λ (o : Option PlainWalk). In o r.walks) a.is (in_at r.walks a.segment.0 None (some_there r.walks a.segment.0 a.walk a.is)))
        (among_from (doubled_of a.walk) d a.has)

    back : IsShown graph r → (i : ℕ) (o : Option PlainWalk) → get_or r.walks i None ≡ o → has_doubled d o ≡ true → r.board.is_taken d ≡ true
    back shown i None is t = absurd (false≢true t)
    back shown i (Some w) is t = shown.laid.takes (seg_at i) w d is (among_at (doubled_of w) d t)
