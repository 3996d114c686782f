-- How the board of a sketch changes.
use Rattle.std.proofs.Common.{◌≡◌, refl, sym, ◌∙◌, ap, subst, ℕ, zero, suc, ◌<◌, Bool, true, false, not, ◌&&◌, ◌||◌, List, [], ◌∷◌, length, get_or, replicate, set, Option, Some, None, ◌⊎◌, inl, inr, arith, length-set, get_or-set_same, get_or-set_other, ap₂}
use Rattle.line_chains.specs.Chains.{ends_of}
use Rattle.grid_board.proofs.OnBoards.{shown_bounds}
use Rattle.drawing_search.proofs.Common.{and_from, and_parts, any_from, are_one, are_one-refl, are_one_from}
use Rattle.drawing_search.proofs.Common.{bare_sketch, board_fits, board_of, cases_eq, contains, doubled_of, empty_board}
use Rattle.drawing_search.proofs.Common.{filter_map, has_doubled, in_standing, is_among, is_inside, is_standing, lifted}
use Rattle.drawing_search.proofs.Common.{list_all, list_any, node_shown, not-true, one_point, parts_of, point_of_node}
use Rattle.drawing_search.proofs.Common.{same_test, set-get_or, shown_node, sketch_of, standing_point, standing_points}
use Rattle.drawing_search.proofs.Common.{stands_below, stood, true≢false, walk_in, with_node, with_walk, with_walk_of}
use Rattle.drawing_search.proofs.Common.{without_node, without_walk, zip, BoardFlags, BoardParts, Bounds, GraphParts}
use Rattle.drawing_search.proofs.Common.{GridPoint, IsBoard, IsConsistent, IsLegalSketch, NodeId, PlainWalk, SegId}
use Rattle.drawing_search.proofs.Common.{Sketch}
use Rattle.drawing_search.proofs.TakenOff.{board_freed, has_walk_at, off_legal}

exchanged : (s t u : Bool) → (s || (t || u)) ≡ (t || (s || u))
exchanged true true u = refl
exchanged true false u = refl
exchanged false t u = refl

-- a node that didn't stand stands at a point
standing_more : (stand : List Bool) (points : List GridPoint) (n : ℕ) (p x : GridPoint) → n < length points → n < length stand → get_or stand n false ≡ false
    → list_any (λ (q : GridPoint). are_one q x) (filter_map standing_point (zip (set stand n true) (set points n p))) ≡ (are_one p x || list_any (λ (q : GridPoint). are_one q x) (filter_map standing_point (zip stand points)))
standing_more [] points n p x there below e = absurd (omega (arith, below))
standing_more (b ∷ bs) [] n p x there below e = absurd (omega (arith, there))
standing_more (true ∷ bs) (q ∷ qs) zero p x there below e = cc
standing_more (false ∷ bs) (q ∷ qs) zero p x there below e = refl
standing_more (true ∷ bs) (q ∷ qs) (suc n) p x there below e =
    ap (λ t. are_one q x || t) (standing_more bs qs n p x (omega arith) (omega arith) e) ∙ exchanged (are_one q x) (are_one p x) (list_any (λ (q : GridPoint). are_one q x) (filter_map standing_point (zip bs qs)))
standing_more (false ∷ bs) (q ∷ qs) (suc n) p x there below e = standing_more bs qs n p x (omega arith) (omega arith) e

pub board_stood : (k : Sketch) (n : NodeId) (p : GridPoint) → n.0 < length k.points → n.0 < length k.stand → is_standing k n.0 ≡ false → board_of (stood k n p) ≡ with_node (board_of k) p
board_stood k n p there below e = λ i. record {
  bounds = k.bounds;
  is_node = λ x. standing_more k.stand k.points n.0 p x there below e i;
  is_taken = (board_of k).is_taken;
}

-- a node that stood is taken off
module _ (graph : GraphParts) (k : Sketch) (h : IsLegalSketch graph k) (n : NodeId) (stands : is_standing k n.0 ≡ true) where
  abbrev p : GridPoint
  p = point_of_node k n.0

  abbrev off : Sketch
  off = lifted k n

  -- a node stands there that stood, and isn't the one
  off_stands : (m : ℕ) → is_standing off m ≡ true → (is_standing k m ≡ true) × (m ≡ n.0 → ⊥)
  off_stands m e = by_number (cases_eq m n.0)
    where
      by_number : (m ≡ n.0) ⊎ (m ≡ n.0 → ⊥) → (is_standing k m ≡ true) × (m ≡ n.0 → ⊥)
      by_number (inl i) =
          absurd (true≢false (sym e ∙ ap (is_standing off) i ∙ get_or-set_same k.stand n.0 false false (omega (arith, stands_below graph k h n.0 stands, h.stand_each))))
      by_number (inr f) = (sym (get_or-set_other k.stand n.0 m false false f) ∙ e, f)

  still_stands : (m : ℕ) → is_standing k m ≡ true → (m ≡ n.0 → ⊥) → is_standing off m ≡ true
  still_stands m e f = get_or-set_other k.stand n.0 m false false f ∙ e

  there : (x : GridPoint) → (board_of off).is_node x ≡ true → (not (are_one p x) && (board_of k).is_node x) ≡ true
  there x e =
      let at = shown_node off x e in
      let before = off_stands at.node at.stands in
      and_from (not (are_one p x)) ((board_of k).is_node x)
      (not_from (are_one p x) (λ same. before.1 (h.own at.node n.0 before.0 stands (at.there ∙ sym (one_point p x same)))))
      (subst (λ (q : GridPoint). (board_of k).is_node q ≡ true) at.there (node_shown graph k h at.node before.0))
    where
      not_from : (t : Bool) → (t ≡ true → ⊥) → not t ≡ true
      not_from true f = absurd (f refl)
      not_from false f = refl

  shown_off : (m : ℕ) → is_standing off m ≡ true → (board_of off).is_node (point_of_node k m) ≡ true
  shown_off m e = any_from (λ (q : GridPoint). are_one q (point_of_node k m)) (standing_points off) (point_of_node k m) (in_standing off.stand off.points m (length-set k.stand n.0 false ∙ h.stand_each ∙ sym h.points_each) e) (are_one-refl (point_of_node k m))

  back : (x : GridPoint) → (not (are_one p x) && (board_of k).is_node x) ≡ true → (board_of off).is_node x ≡ true
  back x e =
      let parts = and_parts (not (are_one p x)) ((board_of k).is_node x) e in
      let at = shown_node k x parts.1 in
      subst (λ (q : GridPoint). (board_of off).is_node q ≡ true) at.there
      (shown_off at.node (still_stands at.node at.stands (λ i. true≢false (sym (are_one_from p x (ap (point_of_node k) (sym i) ∙ at.there)) ∙ not-true (are_one p x) parts.0))))

  pub board_lifted : board_of (lifted k n) ≡ without_node (board_of k) (point_of_node k n.0)
  board_lifted = λ i. record {
    bounds = k.bounds;
    is_node = λ x. same_test ((board_of off).is_node x) (not (are_one p x) && (board_of k).is_node x) (there x) (back x) i;
    is_taken = (board_of k).is_taken;
  }

-- a segment that had none has a walk
taken_more : (ws : List (Option PlainWalk)) (s : ℕ) (w : PlainWalk) (d : GridPoint) → s < length ws → get_or ws s None ≡ None → list_any (has_doubled d) (set ws s (Some w)) ≡ (is_among (doubled_of w) d || list_any (has_doubled d) ws)
taken_more [] s w d below e = absurd (omega (arith, below))
taken_more (None ∷ ws) zero w d below e = refl
taken_more (Some v ∷ ws) zero w d below e = cc
taken_more (o ∷ ws) (suc s) w d below e =
    ap (λ t. has_doubled d o || t) (taken_more ws s w d (omega arith) e) ∙ exchanged (has_doubled d o) (is_among (doubled_of w) d) (list_any (has_doubled d) ws)

pub board_walked : (k : Sketch) (s : SegId) (w : PlainWalk) → s.0 < length k.walks → walk_in k s ≡ None → board_of (with_walk_of k s (Some w)) ≡ with_walk (board_of k) w
board_walked k s w below e = λ i. record {
  bounds = k.bounds;
  is_node = (board_of k).is_node;
  is_taken = λ d. taken_more k.walks s.0 w d below e i;
}

-- ---- nothing yet

none_stand : (ps : List GridPoint) (x : GridPoint) → list_any (λ (q : GridPoint). are_one q x) (filter_map standing_point (zip (replicate (length ps) false) ps)) ≡ false
none_stand [] x = refl
none_stand (p ∷ ps) x = none_stand ps x

none_taken : (n : ℕ) (d : GridPoint) → list_any (has_doubled d) (replicate n (let o : Option PlainWalk = None in o)) ≡ false
none_taken zero d = refl
none_taken (suc n) d = none_taken n d

pub board_bare : (bounds : Bounds) (ps : List GridPoint) (n : ℕ) → board_of (bare_sketch bounds ps n) ≡ empty_board bounds
board_bare bounds ps n = λ i. record { bounds = bounds; is_node = λ x. none_stand ps x i; is_taken = λ d. none_taken n d i }

-- the bounds of a board that shows those of another
pub kept_bounds_by : (b d : BoardFlags) → (parts_of d).bounds ≡ (parts_of b).bounds → d.bounds ≡ b.bounds
kept_bounds_by b d e = sym (shown_bounds d) ∙ e ∙ shown_bounds b

-- a sketch is another one where its parts are
pub same_sketch : (b : BoardFlags) (points : List GridPoint) (stand : List Bool) (walks : List (Option PlainWalk)) (k : Sketch) → b.bounds ≡ k.bounds → points ≡ k.points → stand ≡ k.stand → walks ≡ k.walks → sketch_of b points stand walks ≡ k
same_sketch b points stand walks k e f g h =
    ap₂ (λ (z : Bounds) (ps : List GridPoint). (let x : Sketch = record { bounds = z; points = ps; stand = stand; walks = walks } in x)) e f
    ∙ ap₂ (λ (fs : List Bool) (ws : List (Option PlainWalk)). (let x : Sketch = record { bounds = k.bounds; points = k.points; stand = fs; walks = ws } in x)) g h

module _ (b : BoardFlags) (points : List GridPoint) (stand : List Bool) (walks : List (Option PlainWalk)) (k : Sketch) (shown : parts_of b ≡ board_of (sketch_of b points stand walks)) (view : sketch_of b points stand walks ≡ k) where
  abbrev j : Sketch
  j = sketch_of b points stand walks

  pub bounds_kept : (parts_of b).bounds ≡ k.bounds
  bounds_kept = shown_bounds b ∙ ap (λ (x : Sketch). x.bounds) view

  pub inside_kept : (p : GridPoint) → contains k.bounds p ≡ true → is_inside (parts_of b) p ≡ true
  inside_kept p e = ap (λ (z : Bounds). contains z p) bounds_kept ∙ e

  pub all_inside_kept : (ps : List GridPoint) → list_all (contains k.bounds) ps ≡ true → list_all (is_inside (parts_of b)) ps ≡ true
  all_inside_kept ps e = ap (λ (z : Bounds). list_all (contains z) ps) bounds_kept ∙ e

  -- a node stands
  module _ (d : BoardFlags) (n : NodeId) (p : GridPoint) (is : parts_of d ≡ with_node (parts_of b) p) where
    same_stood : d.bounds ≡ b.bounds
    same_stood = kept_bounds_by b d (ap (λ (x : BoardParts). x.bounds) is)

    pub stood_shown : n.0 < length k.points → n.0 < length k.stand → is_standing k n.0 ≡ false → parts_of d ≡ board_of (sketch_of d (set points n.0 p) (set stand n.0 true) walks)
    stood_shown there flag low =
        is
        ∙ ap (λ (x : BoardParts). with_node x p) shown
        ∙ sym (board_stood j n p (subst (λ (x : Sketch). n.0 < length x.points) (sym view) there) (subst (λ (x : Sketch). n.0 < length x.stand) (sym view) flag) (ap (λ (x : Sketch). is_standing x n.0) view ∙ low))
        ∙ ap (λ (z : Bounds). board_of (let x : Sketch = record { bounds = z; points = set points n.0 p; stand = set stand n.0 true; walks = walks } in x)) (sym same_stood)

    pub stood_view : sketch_of d (set points n.0 p) (set stand n.0 true) walks ≡ stood k n p
    stood_view = ap (λ (z : Bounds). (let x : Sketch = record { bounds = z; points = set points n.0 p; stand = set stand n.0 true; walks = walks } in x)) same_stood ∙ ap (λ (x : Sketch). stood x n p) view

  -- a node is taken off
  module _ (d : BoardFlags) (n : NodeId) (is : parts_of d ≡ without_node (parts_of b) (point_of_node k n.0)) where
    same_lifted : d.bounds ≡ b.bounds
    same_lifted = kept_bounds_by b d (ap (λ (x : BoardParts). x.bounds) is)

    pub lifted_shown : (graph : GraphParts) → IsLegalSketch graph k → is_standing k n.0 ≡ true → parts_of d ≡ board_of (sketch_of d points (set stand n.0 false) walks)
    lifted_shown graph h stands =
        is
        ∙ ap₂ (λ (x : BoardParts) (y : Sketch). without_node x (point_of_node y n.0)) shown (sym view)
        ∙ sym (board_lifted graph j (subst (IsLegalSketch graph) (sym view) h) n (ap (λ (x : Sketch). is_standing x n.0) view ∙ stands))
        ∙ ap (λ (z : Bounds). board_of (let x : Sketch = record { bounds = z; points = points; stand = set stand n.0 false; walks = walks } in x)) (sym same_lifted)

    pub lifted_view : sketch_of d points (set stand n.0 false) walks ≡ lifted k n
    lifted_view = ap (λ (z : Bounds). (let x : Sketch = record { bounds = z; points = points; stand = set stand n.0 false; walks = walks } in x)) same_lifted ∙ ap (λ (x : Sketch). lifted x n) view

  -- a segment has a walk
  module _ (d : BoardFlags) (s : SegId) (w : PlainWalk) (is : parts_of d ≡ with_walk (parts_of b) w) where
    same_walked : d.bounds ≡ b.bounds
    same_walked = kept_bounds_by b d (ap (λ (x : BoardParts). x.bounds) is)

    pub walked_shown : s.0 < length k.walks → walk_in k s ≡ None → parts_of d ≡ board_of (sketch_of d points stand (set walks s.0 (Some w)))
    walked_shown below none =
        is
        ∙ ap (λ (x : BoardParts). with_walk x w) shown
        ∙ sym (board_walked j s w (subst (λ (x : Sketch). s.0 < length x.walks) (sym view) below) (ap (λ (x : Sketch). walk_in x s) view ∙ none))
        ∙ ap (λ (z : Bounds). board_of (let x : Sketch = record { bounds = z; points = points; stand = stand; walks = set walks s.0 (Some w) } in x)) (sym same_walked)

    pub walked_view : sketch_of d points stand (set walks s.0 (Some w)) ≡ with_walk_of k s (Some w)
    walked_view = ap (λ (z : Bounds). (let x : Sketch = record { bounds = z; points = points; stand = stand; walks = set walks s.0 (Some w) } in x)) same_walked ∙ ap (λ (x : Sketch). with_walk_of x s (Some w)) view

  -- or loses it
  module _ (graph : GraphParts) (fit : IsConsistent graph) (h : IsLegalSketch graph k) (s : SegId) (w : PlainWalk) (has : walk_in k s ≡ Some w) (below : s.0 < length graph.ends) where
    legal : IsLegalSketch graph j
    legal = subst (IsLegalSketch graph) (sym view) h

    has_there : walk_in j s ≡ Some w
    has_there = ap (λ (x : Sketch). walk_in x s) view ∙ has

    freed : without_walk (parts_of b) w (has_walk_at graph (with_walk_of j s None) (ends_of graph s).0) (has_walk_at graph (with_walk_of j s None) (ends_of graph s).1) ≡ board_of (with_walk_of j s None)
    freed =
        ap (λ (x : BoardParts). without_walk x w (has_walk_at graph (with_walk_of j s None) (ends_of graph s).0) (has_walk_at graph (with_walk_of j s None) (ends_of graph s).1)) shown
        ∙ sym (board_freed graph fit j legal s w has_there below)

    pub freed_board : IsBoard (without_walk (parts_of b) w (has_walk_at graph (with_walk_of j s None) (ends_of graph s).0) (has_walk_at graph (with_walk_of j s None) (ends_of graph s).1))
    freed_board = subst IsBoard (sym freed) (board_fits graph (with_walk_of j s None) (off_legal graph fit j legal s))

    module _ (d : BoardFlags) (is : parts_of d ≡ without_walk (parts_of b) w (has_walk_at graph (with_walk_of j s None) (ends_of graph s).0) (has_walk_at graph (with_walk_of j s None) (ends_of graph s).1)) where
      same_freed : d.bounds ≡ b.bounds
      same_freed = kept_bounds_by b d (ap (λ (x : BoardParts). x.bounds) is)

      pub freed_shown : parts_of d ≡ board_of (sketch_of d points stand (set walks s.0 None))
      freed_shown = is ∙ freed ∙ ap (λ (z : Bounds). board_of (let x : Sketch = record { bounds = z; points = points; stand = stand; walks = set walks s.0 None } in x)) (sym same_freed)

      pub freed_view : sketch_of d points stand (set walks s.0 None) ≡ with_walk_of k s None
      freed_view = ap (λ (z : Bounds). (let x : Sketch = record { bounds = z; points = points; stand = stand; walks = set walks s.0 None } in x)) same_freed ∙ ap (λ (x : Sketch). with_walk_of x s None) view

  -- a segment that has none stays as it is
  module _ (s : SegId) (none : walk_in k s ≡ None) where
    same_walks : set walks s.0 None ≡ walks
    same_walks = ap (set walks s.0) (sym (ap (λ (x : Sketch). walk_in x s) view ∙ none)) ∙ set-get_or walks s.0 None

    pub bare_shown : parts_of b ≡ board_of (sketch_of b points stand (set walks s.0 None))
    bare_shown = shown ∙ ap (λ (ws : List (Option PlainWalk)). board_of (sketch_of b points stand ws)) (sym same_walks)

    pub bare_view : sketch_of b points stand (set walks s.0 None) ≡ with_walk_of k s None
    bare_view = ap (λ (x : Sketch). with_walk_of x s None) view
