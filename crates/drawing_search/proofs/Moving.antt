-- Nodes that were taken off a whole drawing stand again, moved by a vector: what comes of it is what an attempt lays its runs on.
use Rattle.std.proofs.Common.{◌≡◌, refl, sym, ◌∙◌, ap, ap₂, subst, ℕ, ◌+◌, ◌*◌, ◌<◌, Bool, true, false, not, cond, eqb, ◌&&◌, ◌||◌, List, [], ◌∷◌, length, fold, map, get_or, Option, Some, None, ◌⊎◌, inl, inr, arith, length-set, get_or-set_same, get_or-set_other, zero, suc}
use Rattle.segment_router.proofs.ClearNodes.{undoubled}
use Rattle.run_laying.proofs.Begun.{begun_legal, in_range as in_numbers}
use Rattle.drawing_search.proofs.Common.{all_moved, among_at, among_from, and_from, and_parts, any_at, any_from}
use Rattle.drawing_search.proofs.Common.{apart_in, apart_weight_by, are_one, are_one_from, attempted_on, board_of}
use Rattle.drawing_search.proofs.Common.{cases_eq, clear_for, comes_over_point, contains, contains_in, doubled}
use Rattle.drawing_search.proofs.Common.{doubled_of, doubled_there, eq-eqb, first_point, get_or-map-range_with_len}
use Rattle.drawing_search.proofs.Common.{get_or_default, has_doubled, has_node, has_room, in_round, in_standing}
use Rattle.drawing_search.proofs.Common.{is_among, is_even, is_inner, is_open, is_standing, kept_sketch}
use Rattle.drawing_search.proofs.Common.{length-map-range_with_len, lifted, list_all, list_any, may_move, may_move_to}
use Rattle.drawing_search.proofs.Common.{moved_by, ne_eqb, node_weight_in, not-true, nowhere, one_point, point_of_node}
use Rattle.drawing_search.proofs.Common.{point_then, points_of, range_with_len, same_test, segment_weight, shown_node}
use Rattle.drawing_search.proofs.Common.{sketch_weight, standing_points, stands_at, stands_then, stays_standing, stood}
use Rattle.drawing_search.proofs.Common.{stood_at, sum_by, sum_by-cons, taken_off, true≢false, turns_in, walk_in}
use Rattle.drawing_search.proofs.Common.{walk_left, walks_of, whole_legal, without, without_runs, AreAlike, AreApart}
use Rattle.drawing_search.proofs.Common.{AreLiftable, Attempt, CanStand, CanStandEach, Chain, GraphParts, GridPoint, In}
use Rattle.drawing_search.proofs.Common.{IsClearFor, IsComplete, IsConsistent, IsEndOf, IsFitting, IsKept}
use Rattle.drawing_search.proofs.Common.{IsLegalSketch, IsOnBoard, IsWhole, NodeId, PlainWalk, Scale, SegId, Sketch}
use Rattle.drawing_search.proofs.Common.{Vector}
use Rattle.drawing_search.proofs.Growing.{at_one, in_range, one_more, same_sum}
use Rattle.drawing_search.proofs.Lifts.{group_of, IsGroup, node_from, node_true}
use Rattle.drawing_search.proofs.OnWalks.{sketch_by_walks, without_is}
use Rattle.drawing_search.proofs.PutBack.{can_stand_each, flag_back, flag_still, point_back, same_list, stood_bounds, stood_flags, stood_points, stood_walks, AreOf, ArePutOnce, IsPut, point_still}
use Rattle.drawing_search.proofs.Takable.{liftable_each, walk_below, from_map, in_mapped}
use Rattle.drawing_search.proofs.TakenBack.{lift_bounds, lift_flags, lift_points, lift_walks, low_each, still_standing, IsOneOf}

over_or_not : (p : GridPoint) (o : Option PlainWalk) → has_doubled (doubled p) o ≡ comes_over_point p o
over_or_not p None = refl
over_or_not p (Some w) =
    same_test (is_among (doubled_of w) (doubled p)) (is_among (points_of w) p) (λ e. among_from (points_of w) p (undoubled p w.start w.steps (among_at (doubled_of w) (doubled p) e)))
    (λ e. among_from (doubled_of w) (doubled p) (doubled_there p w.start w.steps (among_at (points_of w) p e)))

over_any : (p : GridPoint) (os : List (Option PlainWalk)) → list_any (has_doubled (doubled p)) os ≡ list_any (comes_over_point p) os
over_any p [] = refl
over_any p (o ∷ os) = ap₂ (λ b c. b || c) (over_or_not p o) (over_any p os)

all_mapped : {X Y : Type 0} (test : Y → Bool) (f : X → Y) (other : X → Bool) (xs : List X) → ((x : X) → In x xs → test (f x) ≡ other x) → list_all test (map f xs) ≡ list_all other xs
all_mapped test f other [] same = refl
all_mapped test f other (x ∷ xs) same = ap₂ (λ b c. b && c) (same x (inl refl)) (all_mapped test f other xs (λ y i. same y (inr i)))

and_true : (b : Bool) → (b && true) ≡ b
and_true true = refl
and_true false = refl

raised_below : (flags : List Bool) (n : ℕ) → get_or flags n false ≡ true → n < length flags
raised_below [] n e = absurd (true≢false (sym e))
raised_below (b ∷ bs) zero e = omega arith
raised_below (b ∷ bs) (suc n) e = omega (arith, raised_below bs n e)

-- a drawing weighs more by the distance of a node that stands
stood_weighs : (scale : Scale) (graph : GraphParts) (first : List GridPoint) (k : Sketch) (n : NodeId) (p : GridPoint) → length k.points ≡ length graph.kinds → length k.stand ≡ length graph.kinds → n.0 < length graph.kinds → is_standing k n.0 ≡ false
    → sketch_weight scale graph first (stood k n p) ≡ sketch_weight scale graph first k + apart_weight_by scale n.0 (first_point first n.0) p
stood_weighs scale graph first k n p points flags below low =
    let segments : sum_by (λ s. segment_weight scale (stood k n p) (record { 0 = s })) (range_with_len 0 (length graph.ends)) ≡ sum_by (λ s. segment_weight scale k (record { 0 = s })) (range_with_len 0 (length graph.ends)) = refl in
    let nodes = same_sum (node_weight_in scale graph first (stood k n p)) (one_more (node_weight_in scale graph first k) n.0 (apart_weight_by scale n.0 (first_point first n.0) p)) (range_with_len 0 (length graph.kinds)) (λ m i. each m (cases_eq m n.0)) in
    let one = at_one (node_weight_in scale graph first k) n.0 (apart_weight_by scale n.0 (first_point first n.0) p) 0 (length graph.kinds) (omega arith) (omega (arith, below)) in
    omega (arith, segments, nodes, one)
  where
    more : ℕ
    more = apart_weight_by scale n.0 (first_point first n.0) p

    each : (m : ℕ) → (m ≡ n.0) ⊎ (m ≡ n.0 → ⊥) → node_weight_in scale graph first (stood k n p) m ≡ one_more (node_weight_in scale graph first k) n.0 more m
    each m (inl e) =
        let turns : scale.overs * turns_in graph (stood k n p) m ≡ scale.overs * turns_in graph k m = refl in
        let before : cond (is_standing k m) (apart_in scale first k m) 0 ≡ 0 = ap (λ b. cond b (apart_in scale first k m) 0) (ap (is_standing k) e ∙ low) in
        let stands : is_standing (stood k n p) m ≡ true = ap (is_standing (stood k n p)) e ∙ get_or-set_same k.stand n.0 true false (omega (arith, below, flags)) in
        let there : point_of_node (stood k n p) m ≡ p = ap (point_of_node (stood k n p)) e ∙ get_or-set_same k.points n.0 p nowhere (omega (arith, below, points)) in
        let afterwards : cond (is_standing (stood k n p) m) (apart_in scale first (stood k n p) m) 0 ≡ more =
        ap (λ b. cond b (apart_in scale first (stood k n p) m) 0) stands ∙ ap (apart_weight_by scale m (first_point first m)) there ∙ ap (λ i. apart_weight_by scale i (first_point first i) p) e in
        let added : cond (eqb m n.0) more 0 ≡ more = ap (λ b. cond b more 0) (eq-eqb m n.0 e) in
        omega (arith, turns, before, afterwards, added)
    each m (inr f) =
        let turns : scale.overs * turns_in graph (stood k n p) m ≡ scale.overs * turns_in graph k m = refl in
        let flag : is_standing (stood k n p) m ≡ is_standing k m = get_or-set_other k.stand n.0 m true false f in
        let there : point_of_node (stood k n p) m ≡ point_of_node k m = get_or-set_other k.points n.0 m p nowhere f in
        let same : cond (is_standing (stood k n p) m) (apart_in scale first (stood k n p) m) 0 ≡ cond (is_standing k m) (apart_in scale first k m) 0 =
        ap (λ b. cond b (apart_in scale first (stood k n p) m) 0) flag ∙ ap (λ (q : GridPoint). cond (is_standing k m) (apart_weight_by scale m (first_point first m) q) 0) there in
        let none : cond (eqb m n.0) more 0 ≡ 0 = ap (λ b. cond b more 0) (ne_eqb m n.0 f) in
        omega (arith, turns, same, none)

pub stood_each_weighs : (scale : Scale) (graph : GraphParts) (first : List GridPoint) (k : Sketch) (ms : List (NodeId × GridPoint)) → length k.points ≡ length graph.kinds → length k.stand ≡ length graph.kinds → CanStandEach k ms
    → sketch_weight scale graph first (fold stood_at k ms) ≡ sketch_weight scale graph first k + sum_by (λ (m : NodeId × GridPoint). apart_weight_by scale m.0.0 (first_point first m.0.0) m.1) ms
stood_each_weighs scale graph first k [] points flags can = omega arith
stood_each_weighs scale graph first k (m ∷ ms) points flags can =
    let rest = stood_each_weighs scale graph first (stood_at k m) ms (length-set k.points m.0.0 m.1 ∙ points) (length-set k.stand m.0.0 true ∙ flags) can.1 in
    let one = stood_weighs scale graph first k m.0 m.1 points flags (omega (arith, can.0.node, points)) can.0.lifted in
    let all = sum_by-cons (λ (x : NodeId × GridPoint). apart_weight_by scale x.0.0 (first_point first x.0.0) x.1) m ms in
    omega (arith, rest, one, all)

-- ---- a group that was taken off a whole drawing

module _ (graph : GraphParts) (fit : IsConsistent graph) (whole old : Sketch) (h : IsLegalSketch graph whole) (w : IsWhole whole) (nodes : List NodeId) (runs : List Chain) (v : Vector)
    (fits : IsFitting graph (record { nodes = nodes; dir = v.dir; count = v.count; runs = runs })) (apart : AreApart nodes) (off : AreAlike old (taken_off graph whole nodes runs)) where
  abbrev pub attempt : Attempt
  attempt = record { nodes = nodes; dir = v.dir; count = v.count; runs = runs }

  abbrev pub begun_on : Sketch
  begun_on = without graph whole attempt

  abbrev pub moved_from : List (NodeId × GridPoint)
  moved_from = map (λ (n : NodeId). (n, point_of_node whole n.0)) nodes

  abbrev pub stood_again : Sketch
  stood_again = fold stood_at old (all_moved v moved_from)

  g : IsGroup graph nodes runs
  g = group_of graph attempt fits apart

  complete : IsComplete graph whole
  complete = record { nodes = λ n below. w.nodes n (omega (arith, below, h.stand_each)); walks = λ i below. w.walks i (omega (arith, below, h.walks_each)) }

  all_stand : (n : ℕ) → n < length graph.kinds → is_standing whole n ≡ true
  all_stand n below = complete.nodes n below

  pub on_board : IsOnBoard graph whole.bounds (walks_of whole)
  on_board = whole_legal graph fit whole h complete

  same_begun : begun_on ≡ without_runs graph whole.bounds (walks_of whole) attempt
  same_begun = ap (λ (j : Sketch). without graph j attempt) (sketch_by_walks graph fit whole h complete) ∙ without_is graph fit whole.bounds (walks_of whole) on_board.drawn attempt

  pub begun_is_legal : may_move begun_on nodes ≡ true → IsLegalSketch graph (without graph whole attempt)
  begun_is_legal may = subst (IsLegalSketch graph) (sym same_begun) (begun_legal graph fit whole.bounds (walks_of whole) on_board attempt fits (ap (λ (j : Sketch). may_move j nodes) (sym same_begun) ∙ may))

  pub begun_clear : (c : Chain) → In c runs → IsClearFor (without graph whole attempt) c
  begun_clear c i = subst (λ (j : Sketch). IsClearFor j c) (sym same_begun) (clear_for graph fit whole.bounds (walks_of whole) on_board attempt fits c i)

  pub comes_kept : (new : Sketch) → attempted_on graph (without graph whole attempt) attempt ≡ Some new → IsKept graph fit whole.bounds (walks_of whole) on_board attempt fits new
  comes_kept new e = kept_sketch graph fit whole.bounds (walks_of whole) on_board attempt fits new (ap (λ (j : Sketch). attempted_on graph j attempt) (sym same_begun) ∙ e)

  -- ---- what stands

  old_flag : (n : ℕ) → n < length graph.kinds → is_standing old n ≡ stays_standing whole nodes runs n
  old_flag n below = ap (λ (fs : List Bool). get_or fs n false) off.stand ∙ get_or-map-range_with_len (stays_standing whole nodes runs) 0 (length graph.kinds) n n false below (omega arith)

  pub old_flags : length old.stand ≡ length graph.kinds
  old_flags = ap length off.stand ∙ length-map-range_with_len (stays_standing whole nodes runs) 0 (length graph.kinds)

  old_points : length old.points ≡ length graph.kinds
  old_points = off.points_each ∙ h.points_each

  old_below : (n : ℕ) → is_standing old n ≡ true → n < length graph.kinds
  old_below n e = omega (arith, raised_below old.stand n e, old_flags)

  old_point : (n : ℕ) → is_standing old n ≡ true → point_of_node old n ≡ point_of_node whole n
  old_point n e = off.points n (ap (λ (fs : List Bool). get_or fs n false) (sym off.stand) ∙ e)

  begun_flag : (n : ℕ) → n < length graph.kinds → is_standing begun_on n ≡ stands_then whole runs n
  begun_flag n below = get_or-map-range_with_len (stands_then whole runs) 0 (length graph.kinds) n n false below (omega arith)

  begun_point : (n : ℕ) → n < length graph.kinds → point_of_node begun_on n ≡ point_then whole attempt n
  begun_point n below = get_or-map-range_with_len (point_then whole attempt) 0 (length graph.kinds) n n nowhere below (omega arith)

  begun_points : length begun_on.points ≡ length graph.kinds
  begun_points = length-map-range_with_len (point_then whole attempt) 0 (length graph.kinds)

  stays_there : (n : ℕ) → n < length graph.kinds → has_node nodes n ≡ false → point_of_node begun_on n ≡ point_of_node whole n
  stays_there n below e = begun_point n below ∙ ap (λ b. cond b (moved_by v (point_of_node whole n)) (point_of_node whole n)) e

  comes_there : (n : ℕ) → n < length graph.kinds → has_node nodes n ≡ true → point_of_node begun_on n ≡ moved_by v (point_of_node whole n)
  comes_there n below e = begun_point n below ∙ ap (λ b. cond b (moved_by v (point_of_node whole n)) (point_of_node whole n)) e

  node_there : (n : NodeId) → In n nodes → has_node nodes n.0 ≡ true
  node_there n i = node_true nodes n.0 (n, i, refl)

  outer : (n : ℕ) → has_node nodes n ≡ true → is_inner runs n ≡ false
  outer n e = let at = node_from nodes n e in ap (is_inner runs) (sym at.2) ∙ g.outer at.0 at.1

  -- ---- they have room where they may move

  module _ (p : GridPoint) where
    at_default : (n : ℕ) → n < length graph.kinds → get_or begun_on.points n p ≡ point_of_node begun_on n
    at_default n below = get_or_default begun_on.points n p nowhere (omega (arith, below, begun_points))

    shown_there : (board_of old).is_node p ≡ true → list_any (stands_at begun_on nodes p) (range_with_len 0 (length begun_on.points)) ≡ true
    shown_there e =
        let at = shown_node old p e in
        let below = old_below at.node at.stands in
        let parts = and_parts (is_standing whole at.node) (not (is_inner runs at.node) && not (has_node nodes at.node)) (sym (old_flag at.node below) ∙ at.stands) in
        let rest = and_parts (not (is_inner runs at.node)) (not (has_node nodes at.node)) parts.1 in
        any_from (stands_at begun_on nodes p) (range_with_len 0 (length begun_on.points)) at.node (in_numbers (length begun_on.points) at.node (omega (arith, below, begun_points)))
        (and_from (is_standing begun_on at.node) (not (has_node nodes at.node) && are_one (get_or begun_on.points at.node p) p) (begun_flag at.node below ∙ and_from (is_standing whole at.node) (not (is_inner runs at.node)) parts.0 rest.0)
        (and_from (not (has_node nodes at.node)) (are_one (get_or begun_on.points at.node p) p) rest.1
        (are_one_from (get_or begun_on.points at.node p) p (at_default at.node below ∙ stays_there at.node below (not-true (has_node nodes at.node) rest.1) ∙ sym (old_point at.node at.stands) ∙ at.there))))

    there_shown : list_any (stands_at begun_on nodes p) (range_with_len 0 (length begun_on.points)) ≡ true → (board_of old).is_node p ≡ true
    there_shown e =
        let found = any_at (stands_at begun_on nodes p) (range_with_len 0 (length begun_on.points)) e in
        let n = found.0 in
        let below : n < length graph.kinds = omega (arith, in_range 0 (length begun_on.points) n found.1, begun_points) in
        let parts = and_parts (is_standing begun_on n) (not (has_node nodes n) && are_one (get_or begun_on.points n p) p) found.2 in
        let rest = and_parts (not (has_node nodes n)) (are_one (get_or begun_on.points n p) p) parts.1 in
        let flags = and_parts (is_standing whole n) (not (is_inner runs n)) (sym (begun_flag n below) ∙ parts.0) in
        let stands : is_standing old n ≡ true = old_flag n below ∙ and_from (is_standing whole n) (not (is_inner runs n) && not (has_node nodes n)) flags.0 (and_from (not (is_inner runs n)) (not (has_node nodes n)) flags.1 rest.0) in
        any_from (λ (q : GridPoint). are_one q p) (standing_points old) (point_of_node old n) (in_standing old.stand old.points n (old_flags ∙ sym old_points) stands)
        (are_one_from (point_of_node old n) p (old_point n stands ∙ sym (stays_there n below (not-true (has_node nodes n) rest.0)) ∙ sym (at_default n below) ∙ one_point (get_or begun_on.points n p) p rest.1))

    pub same_open : is_open old p ≡ may_move_to begun_on nodes p
    same_open =
        ap (λ b. contains b p && (not ((board_of old).is_node p) && not ((board_of old).is_taken (doubled p)))) off.bounds
        ∙ ap₂ (λ x y. contains whole.bounds p && (not x && not y))
        (same_test ((board_of old).is_node p) (list_any (stands_at begun_on nodes p) (range_with_len 0 (length begun_on.points))) shown_there there_shown)
        (ap (list_any (has_doubled (doubled p))) off.walks ∙ over_any p begun_on.walks)

  pub same_room : has_room old v moved_from ≡ may_move (without graph whole attempt) nodes
  same_room =
      all_mapped (λ (m : NodeId × GridPoint). is_open old (moved_by v m.1)) (λ (n : NodeId). (n, point_of_node whole n.0)) (λ (n : NodeId). may_move_to begun_on nodes (point_of_node begun_on n.0)) nodes
      (λ n i. ap (is_open old) (sym (comes_there n.0 (g.node n i) (node_there n i))) ∙ same_open (point_of_node begun_on n.0))

  -- ---- and stand there then

  put_from : (n : ℕ) → IsPut n (all_moved v moved_from) → IsOneOf nodes n
  put_from n (p, i, e) =
      let m = from_map (λ (m : NodeId × GridPoint). (m.0, moved_by v m.1)) moved_from p i in
      let q = from_map (λ (q : NodeId). (q, point_of_node whole q.0)) nodes m.0 m.1 in
      (q.0, q.1, ap (λ (x : NodeId × GridPoint). x.0.0) (sym q.2) ∙ ap (λ (x : NodeId × GridPoint). x.0.0) (sym m.2) ∙ e)

  put_to : (n : ℕ) → IsOneOf nodes n → IsPut n (all_moved v moved_from)
  put_to n (m, i, e) =
      ((m, moved_by v (point_of_node whole m.0)), in_mapped (λ (x : NodeId × GridPoint). (x.0, moved_by v x.1)) moved_from (m, point_of_node whole m.0) (in_mapped (λ (q : NodeId). (q, point_of_node whole q.0)) nodes m i), e)

  are_of : AreOf begun_on (all_moved v moved_from)
  are_of p i =
      let m = from_map (λ (m : NodeId × GridPoint). (m.0, moved_by v m.1)) moved_from p i in
      let q = from_map (λ (q : NodeId). (q, point_of_node whole q.0)) nodes m.0 m.1 in
      subst (λ (x : NodeId × GridPoint). x.1 ≡ point_of_node begun_on x.0.0) (sym m.2)
      (subst (λ (x : NodeId × GridPoint). moved_by v x.1 ≡ point_of_node begun_on x.0.0) (sym q.2) (sym (comes_there q.0.0 (g.node q.0 q.1) (node_there q.0 q.1))))

  begun_below : (n : ℕ) → is_standing begun_on n ≡ true → n < length graph.kinds
  begun_below n e = omega (arith, raised_below begun_on.stand n e, length-map-range_with_len (stands_then whole runs) 0 (length graph.kinds))

  pub stood_alike : AreAlike (fold stood_at old (all_moved v moved_from)) (without graph whole attempt)
  stood_alike = record {
    bounds = stood_bounds old (all_moved v moved_from) ∙ off.bounds;
    points_each = stood_points old (all_moved v moved_from) ∙ old_points ∙ sym begun_points;
    stand =
        same_list false stood_again.stand begun_on.stand (stood_flags old (all_moved v moved_from) ∙ old_flags ∙ sym (length-map-range_with_len (stands_then whole runs) 0 (length graph.kinds)))
        (λ n below. flag n (omega (arith, below, length-map-range_with_len (stands_then whole runs) 0 (length graph.kinds))) (has_node nodes n) refl);
    walks = stood_walks old (all_moved v moved_from) ∙ off.walks;
    points = λ n e. point n e (has_node nodes n) refl;
  }
    where
      flag : (n : ℕ) → n < length graph.kinds → (b : Bool) → has_node nodes n ≡ b → is_standing stood_again n ≡ is_standing begun_on n
      flag n below true e =
          flag_back old (all_moved v moved_from) n (omega (arith, below, old_flags)) (inr (put_to n (node_from nodes n e)))
          ∙ sym (begun_flag n below ∙ ap₂ (λ x y. x && not y) (all_stand n below) (outer n e))
      flag n below false e =
          flag_still old (all_moved v moved_from) n (λ put. let at = put_from n put in true≢false (sym (ap (has_node nodes) (sym at.2) ∙ node_there at.0 at.1) ∙ e))
          ∙ old_flag n below
          ∙ ap (λ c. is_standing whole n && (not (is_inner runs n) && not c)) e
          ∙ ap (λ c. is_standing whole n && c) (and_true (not (is_inner runs n)))
          ∙ sym (begun_flag n below)

      point : (n : ℕ) → is_standing begun_on n ≡ true → (b : Bool) → has_node nodes n ≡ b → point_of_node stood_again n ≡ point_of_node begun_on n
      point n stands true e = let below = begun_below n stands in point_back begun_on old (all_moved v moved_from) n are_of (omega (arith, below, old_points)) (inr (put_to n (node_from nodes n e)))
      point n stands false e =
          let below = begun_below n stands in
          let flags = and_parts (is_standing whole n) (not (is_inner runs n)) (sym (begun_flag n below) ∙ stands) in
          let before : is_standing old n ≡ true = old_flag n below ∙ and_from (is_standing whole n) (not (is_inner runs n) && not (has_node nodes n)) flags.0 (and_from (not (is_inner runs n)) (not (has_node nodes n)) flags.1 (ap not e)) in
          point_back begun_on old (all_moved v moved_from) n are_of (omega (arith, below, old_points)) (inl (old_point n before ∙ sym (stays_there n below e)))

  -- each of them once
  pub moved_once : (ns : List NodeId) → AreApart ns → ArePutOnce (all_moved v (map (λ (n : NodeId). (n, point_of_node whole n.0)) ns))
  moved_once [] apart = tt
  moved_once (n ∷ ns) apart = (λ (p, i, e). again p i e, moved_once ns apart.1)
    where
      again : (p : NodeId × GridPoint) → In p (all_moved v (map (λ (m : NodeId). (m, point_of_node whole m.0)) ns)) → p.0.0 ≡ n.0 → ⊥
      again p i e =
          let m = from_map (λ (m : NodeId × GridPoint). (m.0, moved_by v m.1)) (map (λ (m : NodeId). (m, point_of_node whole m.0)) ns) p i in
          let q = from_map (λ (q : NodeId). (q, point_of_node whole q.0)) ns m.0 m.1 in
          apart.0 q.0 (contains_in ns q.0 q.1) (ap (λ (x : NodeId × GridPoint). x.0.0) (sym q.2) ∙ ap (λ (x : NodeId × GridPoint). x.0.0) (sym m.2) ∙ e)

  -- they can be put there
  pub can_stand_moved : may_move (without graph whole attempt) nodes ≡ true → CanStandEach old (all_moved v moved_from)
  can_stand_moved may = can_stand_each old (all_moved v moved_from) can (moved_once nodes apart)
    where
      legal : IsLegalSketch graph begun_on
      legal = begun_is_legal may

      of_node : (n : NodeId) → In n nodes → CanStand old n (moved_by v (point_of_node whole n.0))
      of_node n i =
          let below = g.node n i in
          let there = comes_there n.0 below (node_there n i) in
          let stands : is_standing begun_on n.0 ≡ true = begun_flag n.0 below ∙ ap₂ (λ x y. x && not y) (all_stand n.0 below) (outer n.0 (node_there n i)) in
          record {
            node = omega (arith, below, old_points);
            flag = omega (arith, below, old_flags);
            lifted = old_flag n.0 below ∙ ap₂ (λ x y. x && (not (is_inner runs n.0) && not y)) (all_stand n.0 below) (node_there n i) ∙ ap (λ x. not x && false) (outer n.0 (node_there n i));
            inside = ap₂ (λ b q. contains b q) off.bounds (sym there) ∙ legal.inside n.0 stands;
            even = ap is_even (sym there) ∙ legal.even n.0 stands;
          }

      can : (p : NodeId × GridPoint) → In p (all_moved v moved_from) → CanStand old p.0 p.1
      can p i =
          let m = from_map (λ (m : NodeId × GridPoint). (m.0, moved_by v m.1)) moved_from p i in
          let q = from_map (λ (q : NodeId). (q, point_of_node whole q.0)) nodes m.0 m.1 in
          subst (λ (x : NodeId × GridPoint). CanStand old x.0 x.1) (sym m.2) (subst (λ (x : NodeId × GridPoint). CanStand old x.0 (moved_by v x.1)) (sym q.2) (of_node q.0 q.1))

  -- ---- and are taken off again

  module _ (new : Sketch) (legal : IsLegalSketch graph new) (same : AreAlike new (fold stood_at old (all_moved v moved_from))) where
    stands_new : (n : NodeId) → In n nodes → is_standing new n.0 ≡ true
    stands_new n i = ap (λ (fs : List Bool). get_or fs n.0 false) same.stand ∙ flag_back old (all_moved v moved_from) n.0 (omega (arith, g.node n i, old_flags)) (inr (put_to n.0 (n, i, refl)))

    walks_are_old : new.walks ≡ old.walks
    walks_are_old = same.walks ∙ stood_walks old (all_moved v moved_from)

    pub moved_liftable : AreLiftable graph new nodes
    moved_liftable = liftable_each graph new legal nodes stands_new bare apart
      where
        bare : (n : NodeId) → In n nodes → (t : SegId) (u : PlainWalk) → walk_in new t ≡ Some u → IsEndOf graph t n.0 → ⊥
        bare n i t u e is_end =
            let below = walk_below graph new legal t u e in
            let on = g.bare n i t (in_round graph fit t n.0 below (g.node n i) is_end) in
            let none : None ≡ Some u =
            sym (get_or-map-range_with_len (walk_left whole runs) 0 (length graph.ends) t.0 t.0 None below (omega arith) ∙ ap (λ b. cond b None (walk_in whole t)) on)
            ∙ ap (λ (os : List (Option PlainWalk)). get_or os t.0 None) (sym (walks_are_old ∙ off.walks))
            ∙ e in
            cc

    pub moved_back : AreAlike (fold lifted new nodes) old
    moved_back = record {
      bounds = lift_bounds new nodes ∙ same.bounds ∙ stood_bounds old (all_moved v moved_from);
      points_each = ap length (lift_points new nodes) ∙ same.points_each ∙ stood_points old (all_moved v moved_from);
      stand =
          same_list false (fold lifted new nodes).stand old.stand (lift_flags new nodes ∙ ap length same.stand ∙ stood_flags old (all_moved v moved_from)) (λ n below. flag n (omega (arith, below, old_flags)) (has_node nodes n) refl);
      walks = lift_walks new nodes ∙ walks_are_old;
      points = λ n e. point n e;
    }
      where
        not_put : (n : ℕ) → has_node nodes n ≡ false → IsPut n (all_moved v moved_from) → ⊥
        not_put n e put = let at = put_from n put in true≢false (sym (ap (has_node nodes) (sym at.2) ∙ node_there at.0 at.1) ∙ e)

        not_one : (n : ℕ) → has_node nodes n ≡ false → IsOneOf nodes n → ⊥
        not_one n e (m, i, f) = true≢false (sym (ap (has_node nodes) (sym f) ∙ node_there m i) ∙ e)

        flag : (n : ℕ) → n < length graph.kinds → (b : Bool) → has_node nodes n ≡ b → is_standing (fold lifted new nodes) n ≡ is_standing old n
        flag n below true e =
            low_each new nodes n (node_from nodes n e) ∙ sym (old_flag n below ∙ ap₂ (λ x y. x && (not (is_inner runs n) && not y)) (all_stand n below) e ∙ ap (λ x. not x && false) (outer n e))
        flag n below false e =
            still_standing new nodes n (not_one n e) ∙ ap (λ (fs : List Bool). get_or fs n false) same.stand ∙ flag_still old (all_moved v moved_from) n (not_put n e)

        point : (n : ℕ) → is_standing old n ≡ true → point_of_node (fold lifted new nodes) n ≡ point_of_node old n
        point n e =
            let below = old_below n e in
            let parts = and_parts (is_standing whole n) (not (is_inner runs n) && not (has_node nodes n)) (sym (old_flag n below) ∙ e) in
            let free : has_node nodes n ≡ false = not-true (has_node nodes n) (and_parts (not (is_inner runs n)) (not (has_node nodes n)) parts.1).1 in
            let stands : is_standing stood_again n ≡ true = flag_still old (all_moved v moved_from) n (not_put n free) ∙ e in
            ap (λ (ps : List GridPoint). get_or ps n nowhere) (lift_points new nodes)
            ∙ same.points n stands
            ∙ point_still old (all_moved v moved_from) n (not_put n free)
