-- Where nodes stand after a route, and what holds of routing under way then.
use Rattle.std.proofs.Common.{◌≡◌, ℕ, ◌<◌, Bool, true, false, not, ◌&&◌, ◌||◌, List, length, get_or, set, Some, None, pos, sym, ap, ◌∙◌, arith, ◌⊎◌, inl, inr, subst}
use Rattle.std.proofs.lemmas.Bool.{and_from, cases_Bool, cases_eq, or_cases, or_left, or_right, not-true, not_from_false, true≢false}
use Rattle.std.proofs.lemmas.List.{get_or-set_other, get_or-set_same, length-set}
use Rattle.map_base.specs.declared.ids.NodeId.{NodeId}
use Rattle.map_base.specs.declared.ids.SegId.{SegId}
use Rattle.graph_core.specs.declared.parts.GraphParts.{GraphParts}
use Rattle.graph_core.specs.Consistent.{IsConsistent}
use Rattle.octi_grid.specs.declared.point.GridPoint.{GridPoint}
use Rattle.octi_grid.specs.Ways.{are_one}
use Rattle.octi_grid.specs.Walks.{end_point, PlainWalk}
use Rattle.octi_grid.specs.Legal.{is_even}
use Rattle.octi_grid.proofs.Members.{are_one-refl, false_from, one_point}
use Rattle.grid_board.specs.Boards.{is_inside, BoardParts}
use Rattle.segment_router.specs.Routes.{end_at, ends_of, is_settled, node_point, route_of, walk_at, with_route, Routed}
use Rattle.segment_router.specs.Underway.{IsUnderway}
use Rattle.segment_router.proofs.RouteLemmas.{end_holds, route_parts, start_holds, IsRoute, IsSeat}

abbrev pub nowhere : GridPoint
nowhere = record { x = pos 0; y = pos 0 }

-- after two writes
pub twice_low : {X : Type 0} (xs : List X) (lo up : ℕ) (p q d : X) → lo < length xs → (lo ≡ up → ⊥) → get_or (set (set xs lo p) up q) lo d ≡ p
twice_low xs lo up p q d h other = get_or-set_other (set xs lo p) up lo q d other ∙ get_or-set_same xs lo p d h

pub twice_up : {X : Type 0} (xs : List X) (lo up : ℕ) (p q d : X) → up < length xs → get_or (set (set xs lo p) up q) up d ≡ q
twice_up xs lo up p q d h = get_or-set_same (set xs lo p) up q d (omega (arith, length-set xs lo p))

pub twice_other : {X : Type 0} (xs : List X) (lo up n : ℕ) (p q d : X) → (n ≡ lo → ⊥) → (n ≡ up → ⊥) → get_or (set (set xs lo p) up q) n d ≡ get_or xs n d
twice_other xs lo up n p q d f g = get_or-set_other (set xs lo p) up n q d g ∙ get_or-set_other xs lo n p d f

pub twice_long : {X : Type 0} (xs : List X) (lo up : ℕ) (p q : X) → length (set (set xs lo p) up q) ≡ length xs
twice_long xs lo up p q = length-set (set xs lo p) up q ∙ length-set xs lo p

-- a segment that gets its route, between two different nodes
pub record Goes (graph : GraphParts) (r : Routed) (s : SegId) (w : PlainWalk) : Type 0 where
  pub low_node : (ends_of graph s).0.0 < length graph.kinds
  pub up_node : (ends_of graph s).1.0 < length graph.kinds
  pub order : (ends_of graph s).0.0 < (ends_of graph s).1.0
  pub segment : s.0 < length graph.ends
  pub underway : IsUnderway graph r
  pub route : IsRoute r.board (end_at graph r s (ends_of graph s).0.0) (end_at graph r s (ends_of graph s).1.0) w

pub goes : (graph : GraphParts) → IsConsistent graph → (r : Routed) → IsUnderway graph r → (s : SegId) → s.0 < length graph.ends → (w : PlainWalk) → route_of graph r s ≡ Some w → Goes graph r s w
goes graph fit r underway s h w e =
    let ends = fit.ends s.0 (record { 0 = 0 }, record { 0 = 0 }) h in
    record {
      low_node = omega (arith, ends.0, ends.1);
      up_node = ends.1;
      order = ends.0;
      segment = h;
      underway = underway;
      route = route_parts r.board (end_at graph r s (ends_of graph s).0.0) (end_at graph r s (ends_of graph s).1.0) w e;
    }

-- the points of the nodes afterwards
pub low_point : (graph : GraphParts) (r : Routed) (s : SegId) (w : PlainWalk) → Goes graph r s w → node_point (with_route graph r s w) (ends_of graph s).0.0 ≡ w.start
low_point graph r s w g =
    twice_low r.points (ends_of graph s).0.0 (ends_of graph s).1.0 w.start (end_point w) nowhere (omega (arith, g.low_node, g.underway.points_each)) (λ e. omega (arith, g.order, e))

pub up_point : (graph : GraphParts) (r : Routed) (s : SegId) (w : PlainWalk) → Goes graph r s w → node_point (with_route graph r s w) (ends_of graph s).1.0 ≡ end_point w
up_point graph r s w g = twice_up r.points (ends_of graph s).0.0 (ends_of graph s).1.0 w.start (end_point w) nowhere (omega (arith, g.up_node, g.underway.points_each))

pub other_point : (graph : GraphParts) (r : Routed) (s : SegId) (w : PlainWalk) (n : ℕ) → (n ≡ (ends_of graph s).0.0 → ⊥) → (n ≡ (ends_of graph s).1.0 → ⊥) → node_point (with_route graph r s w) n ≡ node_point r n
other_point graph r s w n f h = twice_other r.points (ends_of graph s).0.0 (ends_of graph s).1.0 n w.start (end_point w) nowhere f h

-- which nodes are settled afterwards
pub low_settled : (graph : GraphParts) (r : Routed) (s : SegId) (w : PlainWalk) → Goes graph r s w → is_settled (with_route graph r s w) (ends_of graph s).0.0 ≡ true
low_settled graph r s w g =
    twice_low r.settled (ends_of graph s).0.0 (ends_of graph s).1.0 true true false (omega (arith, g.low_node, g.underway.settled_each)) (λ e. omega (arith, g.order, e))

pub up_settled : (graph : GraphParts) (r : Routed) (s : SegId) (w : PlainWalk) → Goes graph r s w → is_settled (with_route graph r s w) (ends_of graph s).1.0 ≡ true
up_settled graph r s w g = twice_up r.settled (ends_of graph s).0.0 (ends_of graph s).1.0 true true false (omega (arith, g.up_node, g.underway.settled_each))

pub other_settled : (graph : GraphParts) (r : Routed) (s : SegId) (w : PlainWalk) (n : ℕ) → (n ≡ (ends_of graph s).0.0 → ⊥) → (n ≡ (ends_of graph s).1.0 → ⊥) → is_settled (with_route graph r s w) n ≡ is_settled r n
other_settled graph r s w n f h = twice_other r.settled (ends_of graph s).0.0 (ends_of graph s).1.0 n true true false f h

-- a node is one of the two ends, or another
pub which_node : (lo up n : ℕ) → (n ≡ lo) ⊎ ((n ≡ up) ⊎ ((n ≡ lo → ⊥) × (n ≡ up → ⊥)))
which_node lo up n = elim (cases_eq n lo) [
  | inl e ↦ inl e
  | inr f ↦ elim (cases_eq n up) [ inl e ↦ inr (inl e) | inr g ↦ inr (inr (f, g)) ]
]

pub by_ends : (P : ℕ → Type 0) (lo up n : ℕ) → P lo → P up → ((n ≡ lo → ⊥) → (n ≡ up → ⊥) → P n) → P n
by_ends P lo up n low high other = elim (cases_eq n lo) [
  | inl e ↦ subst P (sym e) low
  | inr f ↦ elim (cases_eq n up) [ inl e ↦ subst P (sym e) high | inr g ↦ other f g ]
]

pub stays_settled : (graph : GraphParts) (r : Routed) (s : SegId) (w : PlainWalk) → Goes graph r s w → (n : ℕ) → is_settled r n ≡ true → is_settled (with_route graph r s w) n ≡ true
stays_settled graph r s w g n e =
    by_ends (λ v. is_settled (with_route graph r s w) v ≡ true) (ends_of graph s).0.0 (ends_of graph s).1.0 n
    (low_settled graph r s w g) (up_settled graph r s w g)
    (λ f h. other_settled graph r s w n f h ∙ e)

-- the walks afterwards
pub own_walk : (graph : GraphParts) (r : Routed) (s : SegId) (w : PlainWalk) → Goes graph r s w → (t : SegId) → t.0 ≡ s.0 → walk_at (with_route graph r s w) t ≡ Some w
own_walk graph r s w g t e =
    ap (λ i. get_or (set r.walks s.0 (Some w)) i None) e ∙ get_or-set_same r.walks s.0 (Some w) None (omega (arith, g.segment, g.underway.walks_each))

pub other_walk : (graph : GraphParts) (r : Routed) (s : SegId) (w : PlainWalk) (t : SegId) → (t.0 ≡ s.0 → ⊥) → walk_at (with_route graph r s w) t ≡ walk_at r t
other_walk graph r s w t f = get_or-set_other r.walks s.0 t.0 (Some w) None f

pub same_ends : (graph : GraphParts) (s t : SegId) → t.0 ≡ s.0 → ends_of graph t ≡ ends_of graph s
same_ends graph s t e = ap (λ i. get_or graph.ends i (let none : NodeId × NodeId = (record { 0 = 0 }, record { 0 = 0 }) in none)) e

-- a seat of a node is no other node's point
pub seat_away : (graph : GraphParts) (r : Routed) → IsUnderway graph r → (s : SegId) (m n : ℕ) (p : GridPoint) → m < length graph.kinds → n < length graph.kinds → (m ≡ n → ⊥)
    → IsSeat r.board (end_at graph r s m) p → p ≡ node_point r n → ⊥
seat_away graph r underway s m n p h k other seat e = elim (cases_Bool (not (is_settled r m))) [
  | inl t ↦ elim (or_cases _ _ (seat.own t)) [
    | inl own ↦ home (sym (one_point (node_point r m) p own))
    | inr free ↦ true≢false (sym (underway.on_board n k) ∙ ap r.board.is_node (sym e) ∙ not-true _ free)
  ]
  | inr t ↦ home (seat.of_settled t)
]
  where
    home : p ≡ node_point r m → ⊥
    home f = other (underway.apart m n h k (sym f ∙ e))

pub start_away : (graph : GraphParts) (r : Routed) (s : SegId) (w : PlainWalk) → Goes graph r s w → (n : ℕ) → n < length graph.kinds → ((ends_of graph s).0.0 ≡ n → ⊥) → w.start ≡ node_point r n → ⊥
start_away graph r s w g n h other e = seat_away graph r g.underway s (ends_of graph s).0.0 n w.start g.low_node h other g.route.at_start e

pub end_away : (graph : GraphParts) (r : Routed) (s : SegId) (w : PlainWalk) → Goes graph r s w → (n : ℕ) → n < length graph.kinds → ((ends_of graph s).1.0 ≡ n → ⊥) → end_point w ≡ node_point r n → ⊥
end_away graph r s w g n h other e = seat_away graph r g.underway s (ends_of graph s).1.0 n (end_point w) g.up_node h other g.route.at_end e

-- the new points are those of one node each
pub apart_then : (graph : GraphParts) (r : Routed) (s : SegId) (w : PlainWalk) → Goes graph r s w → (n m : ℕ) → n < length graph.kinds → m < length graph.kinds
    → node_point (with_route graph r s w) n ≡ node_point (with_route graph r s w) m → n ≡ m
apart_then graph r s w g n m h k e = by_nodes (which_node (ends_of graph s).0.0 (ends_of graph s).1.0 n) (which_node (ends_of graph s).0.0 (ends_of graph s).1.0 m)
  where
    at_low : (v : ℕ) → v ≡ (ends_of graph s).0.0 → node_point (with_route graph r s w) v ≡ w.start
    at_low v f = ap (node_point (with_route graph r s w)) f ∙ low_point graph r s w g

    at_up : (v : ℕ) → v ≡ (ends_of graph s).1.0 → node_point (with_route graph r s w) v ≡ end_point w
    at_up v f = ap (node_point (with_route graph r s w)) f ∙ up_point graph r s w g

    by_nodes : (n ≡ (ends_of graph s).0.0) ⊎ ((n ≡ (ends_of graph s).1.0) ⊎ ((n ≡ (ends_of graph s).0.0 → ⊥) × (n ≡ (ends_of graph s).1.0 → ⊥)))
        → (m ≡ (ends_of graph s).0.0) ⊎ ((m ≡ (ends_of graph s).1.0) ⊎ ((m ≡ (ends_of graph s).0.0 → ⊥) × (m ≡ (ends_of graph s).1.0 → ⊥))) → n ≡ m
    by_nodes (inl a) (inl b) = a ∙ sym b
    by_nodes (inl a) (inr (inl b)) = absurd (g.route.moves (sym (at_low n a) ∙ e ∙ at_up m b))
    by_nodes (inl a) (inr (inr b)) = absurd (start_away graph r s w g m k (λ f. b.0 (sym f)) (sym (at_low n a) ∙ e ∙ other_point graph r s w m b.0 b.1))
    by_nodes (inr (inl a)) (inl b) = absurd (g.route.moves (sym (at_low m b) ∙ sym e ∙ at_up n a))
    by_nodes (inr (inl a)) (inr (inl b)) = a ∙ sym b
    by_nodes (inr (inl a)) (inr (inr b)) = absurd (end_away graph r s w g m k (λ f. b.1 (sym f)) (sym (at_up n a) ∙ e ∙ other_point graph r s w m b.0 b.1))
    by_nodes (inr (inr a)) (inl b) = absurd (start_away graph r s w g n h (λ f. a.0 (sym f)) (sym (at_low m b) ∙ sym e ∙ other_point graph r s w n a.0 a.1))
    by_nodes (inr (inr a)) (inr (inl b)) = absurd (end_away graph r s w g n h (λ f. a.1 (sym f)) (sym (at_up m b) ∙ sym e ∙ other_point graph r s w n a.0 a.1))
    by_nodes (inr (inr a)) (inr (inr b)) = g.underway.apart n m h k (sym (other_point graph r s w n a.0 a.1) ∙ e ∙ other_point graph r s w m b.0 b.1)

-- a fact of each node's point afterwards, from what it is of the ends of the route and of the other nodes
pub point_holds : (graph : GraphParts) (r : Routed) (s : SegId) (w : PlainWalk) → Goes graph r s w → (test : GridPoint → Bool) → test w.start ≡ true → test (end_point w) ≡ true
    → (n : ℕ) → ((n ≡ (ends_of graph s).0.0 → ⊥) → (n ≡ (ends_of graph s).1.0 → ⊥) → test (node_point r n) ≡ true) → test (node_point (with_route graph r s w) n) ≡ true
point_holds graph r s w g test start end n rest =
    by_ends (λ v. test (node_point (with_route graph r s w) v) ≡ true) (ends_of graph s).0.0 (ends_of graph s).1.0 n
    (ap test (low_point graph r s w g) ∙ start) (ap test (up_point graph r s w g) ∙ end)
    (λ f h. ap test (other_point graph r s w n f h) ∙ rest f h)

-- the board that two nodes are moved on has them
moved_first : (board : BoardParts) (a b c p q : GridPoint) → are_one c p ≡ false → are_one b p ≡ true → (are_one q p || (not (are_one c p) && (are_one b p || (not (are_one a p) && board.is_node p)))) ≡ true
moved_first board a b c p q e f = or_right _ _ (and_from _ _ (not_from_false _ e) (or_left _ _ f))

moved_none : (board : BoardParts) (a b c p q : GridPoint) → are_one c p ≡ false → are_one a p ≡ false → board.is_node p ≡ true
    → (are_one q p || (not (are_one c p) && (are_one b p || (not (are_one a p) && board.is_node p)))) ≡ true
moved_none board a b c p q e f h = or_right _ _ (and_from _ _ (not_from_false _ e) (or_right _ _ (and_from _ _ (not_from_false _ f) h)))

-- where the upper node is before it is settled
pub up_before : (graph : GraphParts) (r : Routed) (s : SegId) (w : PlainWalk) → Goes graph r s w → get_or (set r.points (ends_of graph s).0.0 w.start) (ends_of graph s).1.0 nowhere ≡ node_point r (ends_of graph s).1.0
up_before graph r s w g = get_or-set_other r.points (ends_of graph s).0.0 (ends_of graph s).1.0 w.start nowhere (λ e. omega (arith, g.order, e))

not_one : (p q : GridPoint) → (p ≡ q → ⊥) → are_one p q ≡ false
not_one p q f = false_from _ (λ e. f (one_point p q e))

nodes_then : (graph : GraphParts) (r : Routed) (s : SegId) (w : PlainWalk) → Goes graph r s w → (n : ℕ) → n < length graph.kinds
    → (with_route graph r s w).board.is_node (node_point (with_route graph r s w) n) ≡ true
nodes_then graph r s w g n h =
    by_ends (λ v. (with_route graph r s w).board.is_node (node_point (with_route graph r s w) v) ≡ true)
    (ends_of graph s).0.0 (ends_of graph s).1.0 n
    (ap (with_route graph r s w).board.is_node (low_point graph r s w g)
    ∙ shown w.start (moved_first r.board (node_point r (ends_of graph s).0.0) w.start (node_point r (ends_of graph s).1.0) w.start (end_point w)
    (not_one _ _ (λ f. start_away graph r s w g (ends_of graph s).1.0 g.up_node (λ k. omega (arith, g.order, k)) (sym f))) (are_one-refl w.start)))
    (ap (with_route graph r s w).board.is_node (up_point graph r s w g) ∙ shown (end_point w) (or_left _ _ (are_one-refl (end_point w))))
    (λ e k.
    ap (with_route graph r s w).board.is_node (other_point graph r s w n e k)
    ∙ shown (node_point r n) (moved_none r.board (node_point r (ends_of graph s).0.0) w.start (node_point r (ends_of graph s).1.0) (node_point r n) (end_point w)
    (not_one _ _ (λ f. k (g.underway.apart n (ends_of graph s).1.0 h g.up_node (sym f))))
    (not_one _ _ (λ f. e (g.underway.apart n (ends_of graph s).0.0 h g.low_node (sym f))))
    (g.underway.on_board n h)))
  where
    shown : (p : GridPoint) → (are_one (end_point w) p || (not (are_one (node_point r (ends_of graph s).1.0) p) && (are_one w.start p || (not (are_one (node_point r (ends_of graph s).0.0) p) && r.board.is_node p)))) ≡ true
        → (with_route graph r s w).board.is_node p ≡ true
    shown p e = ap (λ (c : GridPoint). are_one (end_point w) p || (not (are_one c p) && (are_one w.start p || (not (are_one (node_point r (ends_of graph s).0.0) p) && r.board.is_node p)))) (up_before graph r s w g) ∙ e

-- routing is under way after a route
pub underway_more : (graph : GraphParts) (r : Routed) (s : SegId) (w : PlainWalk) → Goes graph r s w → IsUnderway graph (with_route graph r s w)
underway_more graph r s w g = record {
  points_each = twice_long r.points (ends_of graph s).0.0 (ends_of graph s).1.0 w.start (end_point w) ∙ g.underway.points_each;
  settled_each = twice_long r.settled (ends_of graph s).0.0 (ends_of graph s).1.0 true true ∙ g.underway.settled_each;
  walks_each = length-set r.walks s.0 (Some w) ∙ g.underway.walks_each;
  on_board = nodes_then graph r s w g;
  inside = λ n h. point_holds graph r s w g (is_inside r.board) (start_holds (is_inside r.board) w.start w.steps g.route.inside) (end_holds (is_inside r.board) w.start w.steps g.route.inside) n (λ _ _. g.underway.inside n h);
  even = λ n h. point_holds graph r s w g is_even (g.route.at_start.even (g.underway.even (ends_of graph s).0.0 g.low_node)) (g.route.at_end.even (g.underway.even (ends_of graph s).1.0 g.up_node)) n
      (λ _ _. g.underway.even n h);
  apart = apart_then graph r s w g;
  low_settled = λ t v e. elim (cases_eq t.0 s.0) [
    | inl h ↦ ap (λ (p : NodeId × NodeId). is_settled (with_route graph r s w) p.0.0) (same_ends graph s t h) ∙ low_settled graph r s w g
    | inr f ↦ stays_settled graph r s w g (ends_of graph t).0.0 (g.underway.low_settled t v (sym (other_walk graph r s w t f) ∙ e))
  ];
  up_settled = λ t v e. elim (cases_eq t.0 s.0) [
    | inl h ↦ ap (λ (p : NodeId × NodeId). is_settled (with_route graph r s w) p.1.0) (same_ends graph s t h) ∙ up_settled graph r s w g
    | inr f ↦ stays_settled graph r s w g (ends_of graph t).1.0 (g.underway.up_settled t v (sym (other_walk graph r s w t f) ∙ e))
  ];
}
