-- What holds of the walks that are laid so far: they meet each other and settled nodes at their own nodes alone.
use Rattle.std.proofs.Common.{◌≡◌, ℕ, ◌<◌, true, false, not, ◌&&◌, List, [], ◌∷◌, length, get_or, set, pos, Some, sym, refl, ap, subst, ◌∙◌, arith, ◌⊎◌, inl, inr}
use Rattle.std.proofs.lemmas.Bool.{and_parts, cases_Bool, cases_eq, or_cases, or_left, or_right, not-true, true≢false, not-false}
use Rattle.map_base.specs.declared.ids.NodeId.{NodeId}
use Rattle.map_base.specs.declared.ids.SegId.{SegId}
use Rattle.graph_core.specs.declared.parts.GraphParts.{GraphParts}
use Rattle.graph_core.specs.Consistent.{IsConsistent}
use Rattle.octi_grid.specs.declared.dir.Dir.{Dir}
use Rattle.octi_grid.specs.declared.point.GridPoint.{GridPoint}
use Rattle.octi_grid.specs.Ways.{after, are_one, doubled, doubled_from, step_from}
use Rattle.octi_grid.specs.Walks.{doubled_of, end_point, PlainWalk}
use Rattle.octi_grid.specs.Legal.{are_distinct, is_even}
use Rattle.octi_grid.proofs.Members.{among_from, one_point, In}
use Rattle.grid_board.specs.Boards.{is_inside, with_node_moved, BoardParts, IsBoard}
use Rattle.walk_search.specs.Moves.{IsQuestion}
use Rattle.grid_board.proofs.OnBoards.{board_with_walk}
use Rattle.walk_search.proofs.Once.{route_once}
use Rattle.segment_router.specs.Routes.{end_at, ends_of, is_settled, node_point, route_of, walk_at, with_route, Routed}
use Rattle.segment_router.specs.Underway.{IsUnderway}
use Rattle.segment_router.proofs.ClearNodes.{walk_clear}
use Rattle.segment_router.proofs.MaskLemmas.{free_mask}
use Rattle.segment_router.proofs.RouteLemmas.{end_holds, start_holds}
use Rattle.segment_router.proofs.SettledLemmas.{goes, low_point, other_point, other_settled, other_walk, own_walk, same_ends, underway_more, up_point, which_node, Goes, by_ends}

-- the node is an end of the segment
abbrev pub HasEnd : NodeId × NodeId → ℕ → Type 0
HasEnd ends n = (ends.0.0 ≡ n) ⊎ (ends.1.0 ≡ n)

-- a node at which two segments end, and where a doubled point is
pub record Meeting (graph : GraphParts) (r : Routed) (s t : SegId) (d : GridPoint) : Type 0 where
  pub node : ℕ
  pub of_one : HasEnd (ends_of graph s) node
  pub of_other : HasEnd (ends_of graph t) node
  pub there : doubled (node_point r node) ≡ d

-- the walks that are laid
pub record IsLaid (graph : GraphParts) (r : Routed) : Type 0 where
  pub underway : IsUnderway graph r
  pub board : IsBoard r.board
  pub starts : (s : SegId) (w : PlainWalk) → walk_at r s ≡ Some w → w.start ≡ node_point r (ends_of graph s).0.0
  pub ends : (s : SegId) (w : PlainWalk) → walk_at r s ≡ Some w → end_point w ≡ node_point r (ends_of graph s).1.0
  pub once : (s : SegId) (w : PlainWalk) → walk_at r s ≡ Some w → are_distinct (doubled_of w) ≡ true
  pub takes : (s : SegId) (w : PlainWalk) (d : GridPoint) → walk_at r s ≡ Some w → In d (doubled_of w) → r.board.is_taken d ≡ true
  pub apart : (s t : SegId) (v w : PlainWalk) (d : GridPoint) → (s.0 ≡ t.0 → ⊥) → walk_at r s ≡ Some v → walk_at r t ≡ Some w → In d (doubled_of v) → In d (doubled_of w) → Meeting graph r s t d
  pub clear : (s : SegId) (w : PlainWalk) (n : ℕ) → walk_at r s ≡ Some w → n < length graph.kinds → is_settled r n ≡ true → In (doubled (node_point r n)) (doubled_of w) → HasEnd (ends_of graph s) n

-- a board on which a node is moved is one
moved_board : (board : BoardParts) (from to : GridPoint) → IsBoard board → is_inside board to ≡ true → is_even to ≡ true → IsBoard (with_node_moved board from to)
moved_board board from to fit inside even = record {
  in_range = fit.in_range;
  nodes_inside = λ p e. elim (or_cases (are_one to p) (not (are_one from p) && board.is_node p) e) [
    | inl h ↦ ap (is_inside board) (sym (one_point to p h)) ∙ inside
    | inr h ↦ fit.nodes_inside p (and_parts _ _ h).1
  ];
  nodes_even = λ p e. elim (or_cases (are_one to p) (not (are_one from p) && board.is_node p) e) [
    | inl h ↦ ap is_even (sym (one_point to p h)) ∙ even
    | inr h ↦ fit.nodes_even p (and_parts _ _ h).1
  ];
  ends_taken = fit.ends_taken;
}

board_then : (graph : GraphParts) (r : Routed) (s : SegId) (w : PlainWalk) → Goes graph r s w → IsBoard r.board → IsBoard (with_route graph r s w).board
board_then graph r s w g fit =
    let start_even : is_even w.start ≡ true = g.route.at_start.even (g.underway.even (ends_of graph s).0.0 g.low_node) in
    let end_even : is_even (end_point w) ≡ true = g.route.at_end.even (g.underway.even (ends_of graph s).1.0 g.up_node) in
    let first = with_node_moved r.board (node_point r (ends_of graph s).0.0) w.start in
    let before = get_or (set r.points (ends_of graph s).0.0 w.start) (ends_of graph s).1.0 (record { x = pos 0; y = pos 0 }) in
    board_with_walk (with_node_moved first before (end_point w)) w
    (moved_board first before (end_point w)
    (moved_board r.board (node_point r (ends_of graph s).0.0) w.start fit (start_holds (is_inside r.board) w.start w.steps g.route.inside) start_even)
    (end_holds (is_inside r.board) w.start w.steps g.route.inside) end_even)

-- the two ends of a way are on it
pub start_on_way : (p : GridPoint) (ds : List Dir) → In (doubled p) (doubled_from p ds)
start_on_way p [] = inl refl
start_on_way p (d ∷ ds) = inl refl

pub end_on_way : (p : GridPoint) (ds : List Dir) → In (doubled (after p ds)) (doubled_from p ds)
end_on_way p [] = inl refl
end_on_way p (d ∷ ds) = inr (inr (end_on_way (step_from p d) ds))

-- what may be asked for the route of a segment
question_fits : (graph : GraphParts) → IsConsistent graph → (r : Routed) → IsUnderway graph r → IsBoard r.board → (s : SegId) (w : PlainWalk) → Goes graph r s w
    → IsQuestion (record { board = r.board; from = end_at graph r s (ends_of graph s).0.0; to = end_at graph r s (ends_of graph s).1.0 })
question_fits graph fit r underway board s w g = record {
  board = board;
  from_node = underway.on_board (ends_of graph s).0.0 g.low_node;
  to_node = underway.on_board (ends_of graph s).1.0 g.up_node;
  apart = λ e. omega (arith, g.order, underway.apart (ends_of graph s).0.0 (ends_of graph s).1.0 g.low_node g.up_node e);
  from_ports = λ t. free_mask graph fit r underway (ends_of graph s).0.0 g.low_node s (not-true _ t);
  to_ports = λ t. free_mask graph fit r underway (ends_of graph s).1.0 g.up_node s (not-true _ t);
}

-- a settled node stays where it is
pub fixed_point : (graph : GraphParts) (r : Routed) (s : SegId) (w : PlainWalk) → Goes graph r s w → (n : ℕ) → is_settled r n ≡ true → node_point (with_route graph r s w) n ≡ node_point r n
fixed_point graph r s w g n settled =
    by_ends (λ v. is_settled r v ≡ true → node_point (with_route graph r s w) v ≡ node_point r v) (ends_of graph s).0.0
    (ends_of graph s).1.0 n
    (λ t. low_point graph r s w g ∙ g.route.at_start.of_settled (ap not t))
    (λ t. up_point graph r s w g ∙ g.route.at_end.of_settled (ap not t))
    (λ f h t. other_point graph r s w n f h) settled

-- the new walk, or one that was laid before
pub which_walk : (graph : GraphParts) (r : Routed) (s : SegId) (w : PlainWalk) → Goes graph r s w → (t : SegId) (v : PlainWalk) → walk_at (with_route graph r s w) t ≡ Some v
    → ((t.0 ≡ s.0) × (w ≡ v)) ⊎ ((t.0 ≡ s.0 → ⊥) × (walk_at r t ≡ Some v))
which_walk graph r s w g t v e = elim (cases_eq t.0 s.0) [
  | inl h ↦ (let both : Some w ≡ Some v = sym (own_walk graph r s w g t h) ∙ e in inl (h, cc))
  | inr f ↦ inr (f, sym (other_walk graph r s w t f) ∙ e)
]

-- the ends of a walk that was laid are settled
old_end_settled : (graph : GraphParts) (r : Routed) → IsUnderway graph r → (t : SegId) (v : PlainWalk) → walk_at r t ≡ Some v → (n : ℕ) → HasEnd (ends_of graph t) n → is_settled r n ≡ true
old_end_settled graph r underway t v e n (inl h) = ap (is_settled r) (sym h) ∙ underway.low_settled t v e
old_end_settled graph r underway t v e n (inr h) = ap (is_settled r) (sym h) ∙ underway.up_settled t v e

-- where the new walk has a doubled point that was taken, a settled end of it is
pub record AtSettledEnd (graph : GraphParts) (r : Routed) (s : SegId) (d : GridPoint) : Type 0 where
  pub node : ℕ
  pub of_segment : HasEnd (ends_of graph s) node
  pub inside : node < length graph.kinds
  pub settled : is_settled r node ≡ true
  pub there : doubled (node_point r node) ≡ d

at_settled_end : (graph : GraphParts) (r : Routed) (s : SegId) (w : PlainWalk) → Goes graph r s w → (d : GridPoint) → In d (doubled_of w) → r.board.is_taken d ≡ true → AtSettledEnd graph r s d
at_settled_end graph r s w g d m taken = elim (or_cases (not (not (is_settled r (ends_of graph s).0.0)) && are_one (doubled w.start) d) (not (not (is_settled r (ends_of graph s).1.0)) && are_one (doubled (end_point w)) d) (g.route.clear d m taken)) [
  | inl e ↦ low_end (and_parts _ _ e)
  | inr e ↦ up_end (and_parts _ _ e)
]
  where
    low_end : (not (not (is_settled r (ends_of graph s).0.0)) ≡ true) × (are_one (doubled w.start) d ≡ true) → AtSettledEnd graph r s d
    low_end (e, f) =
        let settled : is_settled r (ends_of graph s).0.0 ≡ true = not-false _ (not-true _ e) in
        record {
          node = (ends_of graph s).0.0;
          of_segment = inl refl;
          inside = g.low_node;
          settled = settled;
          there = ap doubled (sym (g.route.at_start.of_settled (ap not settled))) ∙ one_point (doubled w.start) d f;
        }

    up_end : (not (not (is_settled r (ends_of graph s).1.0)) ≡ true) × (are_one (doubled (end_point w)) d ≡ true) → AtSettledEnd graph r s d
    up_end (e, f) =
        let settled : is_settled r (ends_of graph s).1.0 ≡ true = not-false _ (not-true _ e) in
        record {
          node = (ends_of graph s).1.0;
          of_segment = inr refl;
          inside = g.up_node;
          settled = settled;
          there = ap doubled (sym (g.route.at_end.of_settled (ap not settled))) ∙ one_point (doubled (end_point w)) d f;
        }

-- the new walk and one that was laid before
new_meeting : (graph : GraphParts) (r : Routed) (s : SegId) (w : PlainWalk) → Goes graph r s w → IsLaid graph r → (t : SegId) (v : PlainWalk) (d : GridPoint) → walk_at r t ≡ Some v → In d (doubled_of w) → In d (doubled_of v)
    → Meeting graph (with_route graph r s w) s t d
new_meeting graph r s w g laid t v d e m n =
    let a = at_settled_end graph r s w g d m (laid.takes t v d e n) in
    record {
      node = a.node;
      of_one = a.of_segment;
      of_other = laid.clear t v a.node e a.inside a.settled (subst (λ p. In p (doubled_of v)) (sym a.there) n);
      there = ap doubled (fixed_point graph r s w g a.node a.settled) ∙ a.there;
    }

turned_meeting : (graph : GraphParts) (r : Routed) (s t : SegId) (d : GridPoint) → Meeting graph r s t d → Meeting graph r t s d
turned_meeting graph r s t d m = record { node = m.node; of_one = m.of_other; of_other = m.of_one; there = m.there }

-- what is said of a segment is said of each of its number
same_end : (graph : GraphParts) (s t : SegId) → t.0 ≡ s.0 → (n : ℕ) → HasEnd (ends_of graph s) n → HasEnd (ends_of graph t) n
same_end graph s t e n h = subst (λ (p : NodeId × NodeId). HasEnd p n) (sym (same_ends graph s t e)) h

-- the new walk and a node
new_clear : (graph : GraphParts) (r : Routed) (s : SegId) (w : PlainWalk) → Goes graph r s w → (n : ℕ) → n < length graph.kinds
    → In (doubled (node_point (with_route graph r s w) n)) (doubled_of w) → HasEnd (ends_of graph s) n
new_clear graph r s w g n h m =
    by_ends (HasEnd (ends_of graph s)) (ends_of graph s).0.0 (ends_of graph s).1.0 n (inl refl) (inr refl)
    (λ f k. absurd (walk_clear graph r s w g n h f k (subst (λ p. In (doubled p) (doubled_of w)) (other_point graph r s w n f k) m)))

-- a walk that was laid before and a node that is settled
old_clear : (graph : GraphParts) (r : Routed) (s : SegId) (w : PlainWalk) → Goes graph r s w → IsLaid graph r → (t : SegId) (v : PlainWalk) (n : ℕ) → walk_at r t ≡ Some v → n < length graph.kinds
    → is_settled (with_route graph r s w) n ≡ true → In (doubled (node_point (with_route graph r s w) n)) (doubled_of v) → HasEnd (ends_of graph t) n
old_clear graph r s w g laid t v n e h settled m = elim (cases_Bool (is_settled r n)) [
  | inl b ↦ laid.clear t v n e h b (subst (λ p. In (doubled p) (doubled_of v)) (fixed_point graph r s w g n b) m)
  | inr f ↦ fresh f (which_node (ends_of graph s).0.0 (ends_of graph s).1.0 n)
]
  where
    clash : r.board.is_taken (doubled (node_point (with_route graph r s w) n)) ≡ false → HasEnd (ends_of graph t) n
    clash f = absurd (true≢false (sym (laid.takes t v (doubled (node_point (with_route graph r s w) n)) e m) ∙ f))

    fresh : is_settled r n ≡ false → (n ≡ (ends_of graph s).0.0) ⊎ ((n ≡ (ends_of graph s).1.0) ⊎ ((n ≡ (ends_of graph s).0.0 → ⊥) × (n ≡ (ends_of graph s).1.0 → ⊥))) → HasEnd (ends_of graph t) n
    fresh f (inl k) =
        clash (ap (λ p. r.board.is_taken (doubled p)) (ap (node_point (with_route graph r s w)) k ∙ low_point graph r s w g) ∙ g.route.at_start.clear (ap (λ u. not (is_settled r u)) (sym k) ∙ ap not f))
    fresh f (inr (inl k)) =
        clash (ap (λ p. r.board.is_taken (doubled p)) (ap (node_point (with_route graph r s w)) k ∙ up_point graph r s w g) ∙ g.route.at_end.clear (ap (λ u. not (is_settled r u)) (sym k) ∙ ap not f))
    fresh f (inr (inr k)) = absurd (true≢false (sym settled ∙ other_settled graph r s w n k.0 k.1 ∙ f))

-- what is taken afterwards
taken_new : (graph : GraphParts) (r : Routed) (s : SegId) (w : PlainWalk) (d : GridPoint) → In d (doubled_of w) → (with_route graph r s w).board.is_taken d ≡ true
taken_new graph r s w d m = or_left _ _ (among_from (doubled_of w) d m)

taken_old : (graph : GraphParts) (r : Routed) (s : SegId) (w : PlainWalk) (d : GridPoint) → r.board.is_taken d ≡ true → (with_route graph r s w).board.is_taken d ≡ true
taken_old graph r s w d e = or_right _ _ e

-- one walk more is laid
pub laid_more : (graph : GraphParts) → IsConsistent graph → (r : Routed) → IsLaid graph r → (s : SegId) → s.0 < length graph.ends → (w : PlainWalk) → route_of graph r s ≡ Some w → IsLaid graph (with_route graph r s w)
laid_more graph fit r laid s h w e =
    let g = goes graph fit r laid.underway s h w e in
    record {
      underway = underway_more graph r s w g;
      board = board_then graph r s w g laid.board;
      starts = λ t v k. starts g t v (which_walk graph r s w g t v k);
      ends = λ t v k. ends g t v (which_walk graph r s w g t v k);
      once = λ t v k. once g t v (which_walk graph r s w g t v k);
      takes = λ t v d k m. takes t v d m (which_walk graph r s w g t v k);
      apart = λ t u v x d f k l m n. apart g t u v x d f m n (which_walk graph r s w g t v k) (which_walk graph r s w g u x l);
      clear = λ t v n k b settled m. clear g t v n b settled m (which_walk graph r s w g t v k);
    }
  where
    starts : Goes graph r s w → (t : SegId) (v : PlainWalk) → ((t.0 ≡ s.0) × (w ≡ v)) ⊎ ((t.0 ≡ s.0 → ⊥) × (walk_at r t ≡ Some v)) → v.start ≡ node_point (with_route graph r s w) (ends_of graph t).0.0
    starts g t v (inl k) =
        ap (λ (x : PlainWalk). x.start) (sym k.1) ∙ sym (low_point graph r s w g) ∙ ap (λ (p : NodeId × NodeId). node_point (with_route graph r s w) p.0.0) (sym (same_ends graph s t k.0))
    starts g t v (inr k) = laid.starts t v k.1 ∙ sym (fixed_point graph r s w g (ends_of graph t).0.0 (laid.underway.low_settled t v k.1))

    ends : Goes graph r s w → (t : SegId) (v : PlainWalk) → ((t.0 ≡ s.0) × (w ≡ v)) ⊎ ((t.0 ≡ s.0 → ⊥) × (walk_at r t ≡ Some v)) → end_point v ≡ node_point (with_route graph r s w) (ends_of graph t).1.0
    ends g t v (inl k) = ap end_point (sym k.1) ∙ sym (up_point graph r s w g) ∙ ap (λ (p : NodeId × NodeId). node_point (with_route graph r s w) p.1.0) (sym (same_ends graph s t k.0))
    ends g t v (inr k) = laid.ends t v k.1 ∙ sym (fixed_point graph r s w g (ends_of graph t).1.0 (laid.underway.up_settled t v k.1))

    once : Goes graph r s w → (t : SegId) (v : PlainWalk) → ((t.0 ≡ s.0) × (w ≡ v)) ⊎ ((t.0 ≡ s.0 → ⊥) × (walk_at r t ≡ Some v)) → are_distinct (doubled_of v) ≡ true
    once g t v (inl k) =
        ap (λ (x : PlainWalk). are_distinct (doubled_of x)) (sym k.1)
        ∙ route_once (record { board = r.board; from = end_at graph r s (ends_of graph s).0.0; to = end_at graph r s (ends_of graph s).1.0 }) (question_fits graph fit r laid.underway laid.board s w g) w e
    once g t v (inr k) = laid.once t v k.1

    takes : (t : SegId) (v : PlainWalk) (d : GridPoint) → In d (doubled_of v) → ((t.0 ≡ s.0) × (w ≡ v)) ⊎ ((t.0 ≡ s.0 → ⊥) × (walk_at r t ≡ Some v)) → (with_route graph r s w).board.is_taken d ≡ true
    takes t v d m (inl k) = taken_new graph r s w d (subst (λ (x : PlainWalk). In d (doubled_of x)) (sym k.1) m)
    takes t v d m (inr k) = taken_old graph r s w d (laid.takes t v d k.1 m)

    moved : Goes graph r s w → (t u : SegId) (v x : PlainWalk) (d : GridPoint) → walk_at r t ≡ Some v → Meeting graph r t u d → Meeting graph (with_route graph r s w) t u d
    moved g t u v x d k a = record {
      node = a.node;
      of_one = a.of_one;
      of_other = a.of_other;
      there = ap doubled (fixed_point graph r s w g a.node (old_end_settled graph r laid.underway t v k a.node a.of_one)) ∙ a.there;
    }

    numbered : (t u : SegId) (d : GridPoint) → t.0 ≡ s.0 → Meeting graph (with_route graph r s w) s u d → Meeting graph (with_route graph r s w) t u d
    numbered t u d k a = record { node = a.node; of_one = same_end graph s t k a.node a.of_one; of_other = a.of_other; there = a.there }

    apart : Goes graph r s w → (t u : SegId) (v x : PlainWalk) (d : GridPoint) → (t.0 ≡ u.0 → ⊥) → In d (doubled_of v) → In d (doubled_of x)
        → ((t.0 ≡ s.0) × (w ≡ v)) ⊎ ((t.0 ≡ s.0 → ⊥) × (walk_at r t ≡ Some v)) → ((u.0 ≡ s.0) × (w ≡ x)) ⊎ ((u.0 ≡ s.0 → ⊥) × (walk_at r u ≡ Some x)) → Meeting graph (with_route graph r s w) t u d
    apart g t u v x d f m n (inl k) (inl l) = absurd (f (k.0 ∙ sym l.0))
    apart g t u v x d f m n (inl k) (inr l) = numbered t u d k.0 (new_meeting graph r s w g laid u x d l.1 (subst (λ (y : PlainWalk). In d (doubled_of y)) (sym k.1) m) n)
    apart g t u v x d f m n (inr k) (inl l) =
        turned_meeting graph (with_route graph r s w) u t d (numbered u t d l.0 (new_meeting graph r s w g laid t v d k.1 (subst (λ (y : PlainWalk). In d (doubled_of y)) (sym l.1) n) m))
    apart g t u v x d f m n (inr k) (inr l) = moved g t u v x d k.1 (laid.apart t u v x d f k.1 l.1 m n)

    clear : Goes graph r s w → (t : SegId) (v : PlainWalk) (n : ℕ) → n < length graph.kinds → is_settled (with_route graph r s w) n ≡ true → In (doubled (node_point (with_route graph r s w) n)) (doubled_of v)
        → ((t.0 ≡ s.0) × (w ≡ v)) ⊎ ((t.0 ≡ s.0 → ⊥) × (walk_at r t ≡ Some v)) → HasEnd (ends_of graph t) n
    clear g t v n b settled m (inl k) =
        same_end graph s t k.0 n (new_clear graph r s w g n b (subst (λ (x : PlainWalk). In (doubled (node_point (with_route graph r s w) n)) (doubled_of x)) (sym k.1) m))
    clear g t v n b settled m (inr k) = old_clear graph r s w g laid t v n k.1 b settled m
