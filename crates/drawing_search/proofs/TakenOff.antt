-- A legal sketch from which a walk or a node is taken off: it stays legal, and its board is freed.
use Rattle.std.proofs.Common.{◌≡◌, refl, sym, ◌∙◌, ap, subst, ℕ, zero, suc, ◌<◌, ◌≤◌, Bool, true, false, not, ◌&&◌, ◌||◌, is_some, List, [], ◌∷◌, length, get_or, set, Option, Some, None, ◌⊎◌, inl, inr, arith, length-set, get_or-set_other}
use Rattle.line_chains.specs.Chains.{ends_of}
use Rattle.segment_router.proofs.LaidLemmas.{end_on_way, start_on_way}
use Rattle.drawing_search.proofs.Common.{among_from, and_from, and_parts, any_at, any_from, are_one, are_one_from}
use Rattle.drawing_search.proofs.Common.{board_of, board_under, cases_Bool, cases_eq, cases_lt, clockwise_fewer}
use Rattle.drawing_search.proofs.Common.{doubled, doubled_of, end_below, end_point, ends_round, get_or_past}
use Rattle.drawing_search.proofs.Common.{has_doubled, in_round, in_walks, is_among, is_standing, lifted, list_any}
use Rattle.drawing_search.proofs.Common.{not-true, one_point, or_cases, or_left, or_right, point_of_node, port_at_node}
use Rattle.drawing_search.proofs.Common.{port_by, round_of, same_test, seg_at, true≢false, walk_in, with_kept}
use Rattle.drawing_search.proofs.Common.{with_walk_of, without_walk, GraphParts, GridPoint, In, IsConsistent, IsEndOf}
use Rattle.drawing_search.proofs.Common.{IsLegalSketch, IsMeeting, IsSameOrNone, NodeId, PlainWalk, SegId, Sketch}

-- what is taken from a list is gone, and stays so
pub gone : {X : Type 0} (d : X) (xs : List X) (i : ℕ) → get_or (set xs i d) i d ≡ d
gone d [] i = refl
gone d (x ∷ xs) zero = refl
gone d (x ∷ xs) (suc i) = gone d xs i

pub still_gone : {X : Type 0} (d : X) (xs : List X) (i j : ℕ) → get_or xs j d ≡ d → get_or (set xs i d) j d ≡ d
still_gone d [] i j e = e
still_gone d (x ∷ xs) zero zero e = refl
still_gone d (x ∷ xs) zero (suc j) e = e
still_gone d (x ∷ xs) (suc i) zero e = e
still_gone d (x ∷ xs) (suc i) (suc j) e = still_gone d xs i j e

-- some segment round a node has a walk
abbrev pub has_walk_at : GraphParts → Sketch → NodeId → Bool
has_walk_at graph k n = list_any (λ (t : SegId). is_some (walk_in k t)) (round_of graph n)

module _ (graph : GraphParts) (fit : IsConsistent graph) (k : Sketch) (h : IsLegalSketch graph k) (s : SegId) where
  abbrev pub off : Sketch
  off = with_walk_of k s None

  -- a walk that is left
  left_walk : (t : SegId) (v : PlainWalk) → walk_in off t ≡ Some v → (t.0 ≡ s.0 → ⊥) × (walk_in k t ≡ Some v)
  left_walk t v e = by_number (cases_eq t.0 s.0)
    where
      by_number : (t.0 ≡ s.0) ⊎ (t.0 ≡ s.0 → ⊥) → (t.0 ≡ s.0 → ⊥) × (walk_in k t ≡ Some v)
      by_number (inl i) = let none : None ≡ Some v = sym (gone None k.walks s.0) ∙ ap (λ j. get_or (set k.walks s.0 None) j None) (sym i) ∙ e in cc
      by_number (inr f) = (f, sym (get_or-set_other k.walks s.0 t.0 None None f) ∙ e)

  still_walk : (t : SegId) (v : PlainWalk) → (t.0 ≡ s.0 → ⊥) → walk_in k t ≡ Some v → walk_in off t ≡ Some v
  still_walk t v f e = get_or-set_other k.walks s.0 t.0 None None f ∙ e

  same_port : (n : ℕ) (t : SegId) → IsSameOrNone (port_at_node graph (board_under off) n t) (port_at_node graph (board_under k) n t)
  same_port n t = by_walk (walk_in off t) refl
    where
      by_walk : (o : Option PlainWalk) → walk_in off t ≡ o → IsSameOrNone (port_by (ends_of graph t) n (walk_in off t)) (port_by (ends_of graph t) n (walk_in k t))
      by_walk None e = inl (ap (port_by (ends_of graph t) n) e)
      by_walk (Some v) e = inr (ap (port_by (ends_of graph t) n) (e ∙ sym (left_walk t v e).1))

  pub off_legal : IsLegalSketch graph (with_walk_of k s None)
  off_legal = record {
    bounds = h.bounds;
    points_each = h.points_each;
    stand_each = h.stand_each;
    walks_each = length-set k.walks s.0 None ∙ h.walks_each;
    inside = h.inside;
    even = h.even;
    own = h.own;
    low = λ t v e. h.low t v (left_walk t v e).1;
    up = λ t v e. h.up t v (left_walk t v e).1;
    starts = λ t v e. h.starts t v (left_walk t v e).1;
    ends = λ t v e. h.ends t v (left_walk t v e).1;
    within = λ t v e. h.within t v (left_walk t v e).1;
    once = λ t v e. h.once t v (left_walk t v e).1;
    apart = λ t u v x d f e g i j. let m = h.apart t u v x d f (left_walk t v e).1 (left_walk u x g).1 i j in record { node = m.node; of_one = m.of_one; of_other = m.of_other; there = m.there };
    clear = λ t v n e stands i. h.clear t v n (left_walk t v e).1 stands i;
    ports = λ n below. clockwise_fewer (port_at_node graph (board_under off) n) (port_at_node graph (board_under k) n) (get_or graph.rounds n []) (same_port n) (h.ports n below);
  }

  -- a walk of the board is that of a segment
  record IsOf (ws : List (Option PlainWalk)) (v : PlainWalk) : Type 0 where
    at : ℕ
    there : get_or ws at None ≡ Some v

  at_place : (ws : List (Option PlainWalk)) (v : PlainWalk) → In (Some v) ws → IsOf ws v
  at_place [] v m = absurd m
  at_place (o ∷ ws) v (inl e) = record { at = 0; there = sym e }
  at_place (o ∷ ws) v (inr m) = let rest = at_place ws v m in record { at = suc rest.at; there = rest.there }

  record Taker (j : Sketch) (d : GridPoint) : Type 0 where
    seg : SegId
    walk : PlainWalk
    is : walk_in j seg ≡ Some walk
    takes : is_among (doubled_of walk) d ≡ true

  taker : (j : Sketch) (d : GridPoint) → (board_of j).is_taken d ≡ true → Taker j d
  taker j d e = let found = any_at (has_doubled d) j.walks e in by_walk found.0 found.1 found.2
    where
      by_walk : (o : Option PlainWalk) → In o j.walks → has_doubled d o ≡ true → Taker j d
      by_walk None m f = cc
      by_walk (Some v) m f = let place = at_place j.walks v m in record { seg = seg_at place.at; walk = v; is = place.there; takes = f }

  taken_by : (j : Sketch) (t : SegId) (v : PlainWalk) (d : GridPoint) → walk_in j t ≡ Some v → is_among (doubled_of v) d ≡ true → (board_of j).is_taken d ≡ true
  taken_by j t v d e f = any_from (has_doubled d) j.walks (Some v) (in_walks j.walks t.0 v e) f

  module _ (w : PlainWalk) (is : walk_in k s ≡ Some w) (below : s.0 < length graph.ends) where
    -- a segment round an end has a walk, which takes the point there
    end_taken : (n : NodeId) → n.0 < length graph.kinds → has_walk_at graph off n ≡ true → (board_of off).is_taken (doubled (point_of_node k n.0)) ≡ true
    end_taken n node e = let found = any_at (λ (t : SegId). is_some (walk_in off t)) (round_of graph n) e in by_walk found.0 (walk_in off found.0) refl found.2 (ends_round graph fit n.0 node found.0 found.1)
      where
        on_end : (t : SegId) (v : PlainWalk) → walk_in off t ≡ Some v → IsEndOf graph t n.0 → is_among (doubled_of v) (doubled (point_of_node k n.0)) ≡ true
        on_end t v i (inl at) =
            among_from (doubled_of v) (doubled (point_of_node k n.0)) (subst (λ (q : GridPoint). In (doubled q) (doubled_of v)) (h.starts t v (left_walk t v i).1 ∙ ap (point_of_node k) at) (start_on_way v.start v.steps))
        on_end t v i (inr at) =
            among_from (doubled_of v) (doubled (point_of_node k n.0)) (subst (λ (q : GridPoint). In (doubled q) (doubled_of v)) (h.ends t v (left_walk t v i).1 ∙ ap (point_of_node k) at) (end_on_way v.start v.steps))

        by_walk : (t : SegId) (o : Option PlainWalk) → walk_in off t ≡ o → is_some (walk_in off t) ≡ true → IsEndOf graph t n.0 → (board_of off).is_taken (doubled (point_of_node k n.0)) ≡ true
        by_walk t None i there at = absurd (true≢false (sym there ∙ ap is_some i))
        by_walk t (Some v) i there at = taken_by off t v (doubled (point_of_node k n.0)) i (on_end t v i at)

    -- and where another walk takes a doubled point of the walk, one does at that end
    shares : (t : SegId) (v : PlainWalk) (d : GridPoint) → walk_in off t ≡ Some v → is_among (doubled_of w) d ≡ true → is_among (doubled_of v) d ≡ true → (n : NodeId) → IsEndOf graph t n.0 → has_walk_at graph off n ≡ true
    shares t v d e i j n is_end =
        let t_below : t.0 < length graph.ends = below_of t v (left_walk t v e).1 in
        any_from (λ (u : SegId). is_some (walk_in off u)) (round_of graph n) t (in_round graph fit t n.0 t_below (end_below graph fit t n.0 t_below is_end) is_end) (ap is_some e)
      where
        below_of : (u : SegId) (x : PlainWalk) → walk_in k u ≡ Some x → u.0 < length graph.ends
        below_of u x g = by_order (cases_lt u.0 (length graph.ends))
          where
            by_order : (u.0 < length graph.ends) ⊎ (length graph.ends ≤ u.0) → u.0 < length graph.ends
            by_order (inl less) = less
            by_order (inr past) = let none : None ≡ Some x = sym (get_or_past k.walks u.0 None (omega (arith, past, h.walks_each))) ∙ g in cc

    abbrev low : NodeId
    low = (ends_of graph s).0

    abbrev up : NodeId
    up = (ends_of graph s).1

    low_below : low.0 < length graph.kinds
    low_below = end_below graph fit s low.0 below (inl refl)

    up_below : up.0 < length graph.kinds
    up_below = end_below graph fit s up.0 below (inr refl)

    abbrev freed : GridPoint → Bool
    freed d = with_kept (has_walk_at graph off up) (end_point w) (with_kept (has_walk_at graph off low) w.start (λ d. not (is_among (doubled_of w) d) && (board_of k).is_taken d)) d

    kept_at_end : (d : GridPoint) (t : SegId) (v : PlainWalk) → walk_in off t ≡ Some v → is_among (doubled_of w) d ≡ true → is_among (doubled_of v) d ≡ true → IsMeeting graph k s t d → freed d ≡ true
    kept_at_end d t v e i j m = by_end m.of_one
      where
        by_end : IsEndOf graph s m.node → freed d ≡ true
        by_end (inl at) =
            let here : has_walk_at graph off low ≡ true = shares t v d e i j low (subst (IsEndOf graph t) (sym at) m.of_other) in
            or_right (has_walk_at graph off up && are_one (doubled (end_point w)) d) _
            (or_left (has_walk_at graph off low && are_one (doubled w.start) d) _
            (and_from (has_walk_at graph off low) (are_one (doubled w.start) d) here (are_one_from (doubled w.start) d (ap doubled (h.starts s w is ∙ ap (point_of_node k) at) ∙ m.there))))
        by_end (inr at) =
            let here : has_walk_at graph off up ≡ true = shares t v d e i j up (subst (IsEndOf graph t) (sym at) m.of_other) in
            or_left (has_walk_at graph off up && are_one (doubled (end_point w)) d) _
            (and_from (has_walk_at graph off up) (are_one (doubled (end_point w)) d) here (are_one_from (doubled (end_point w)) d (ap doubled (h.ends s w is ∙ ap (point_of_node k) at) ∙ m.there)))

    there : (d : GridPoint) → (board_of off).is_taken d ≡ true → freed d ≡ true
    there d e = let t = taker off d e in by_test t (left_walk t.seg t.walk t.is) (cases_Bool (is_among (doubled_of w) d))
      where
        by_test : (t : Taker off d) → (t.seg.0 ≡ s.0 → ⊥) × (walk_in k t.seg ≡ Some t.walk) → (is_among (doubled_of w) d ≡ true) ⊎ (is_among (doubled_of w) d ≡ false) → freed d ≡ true
        by_test t left (inl i) = kept_at_end d t.seg t.walk t.is i t.takes (h.apart s t.seg w t.walk d (λ same. left.0 (sym same)) is left.1 i t.takes)
        by_test t left (inr f) =
            or_right (has_walk_at graph off up && are_one (doubled (end_point w)) d) _
            (or_right (has_walk_at graph off low && are_one (doubled w.start) d) _
            (and_from (not (is_among (doubled_of w) d)) ((board_of k).is_taken d) (ap not f) (taken_by k t.seg t.walk d left.1 t.takes)))

    back : (d : GridPoint) → freed d ≡ true → (board_of off).is_taken d ≡ true
    back d e = by_first (or_cases (has_walk_at graph off up && are_one (doubled (end_point w)) d) _ e)
      where
        at_end : (n : NodeId) (p : GridPoint) → n.0 < length graph.kinds → p ≡ point_of_node k n.0 → (has_walk_at graph off n && are_one (doubled p) d) ≡ true → (board_of off).is_taken d ≡ true
        at_end n p node at both =
            let parts = and_parts (has_walk_at graph off n) (are_one (doubled p) d) both in
            subst (λ (q : GridPoint). (board_of off).is_taken q ≡ true) (ap doubled (sym at) ∙ one_point (doubled p) d parts.1) (end_taken n node parts.0)

        by_last : (not (is_among (doubled_of w) d) && (board_of k).is_taken d) ≡ true → (board_of off).is_taken d ≡ true
        by_last both =
            let parts = and_parts (not (is_among (doubled_of w) d)) ((board_of k).is_taken d) both in
            let t = taker k d parts.1 in
            taken_by off t.seg t.walk d (still_walk t.seg t.walk (λ same. other t (not-true (is_among (doubled_of w) d) parts.0) same) t.is) t.takes
          where
            other : (t : Taker k d) → is_among (doubled_of w) d ≡ false → t.seg.0 ≡ s.0 → ⊥
            other t f same =
                let both : Some t.walk ≡ Some w = sym t.is ∙ ap (λ j. get_or k.walks j None) same ∙ is in
                let one : t.walk ≡ w = cc in
                true≢false (sym (ap (λ (v : PlainWalk). is_among (doubled_of v) d) (sym one) ∙ t.takes) ∙ f)

        by_second : ((has_walk_at graph off low && are_one (doubled w.start) d) ≡ true) ⊎ ((not (is_among (doubled_of w) d) && (board_of k).is_taken d) ≡ true) → (board_of off).is_taken d ≡ true
        by_second (inl both) = at_end low w.start low_below (h.starts s w is) both
        by_second (inr both) = by_last both

        by_first : ((has_walk_at graph off up && are_one (doubled (end_point w)) d) ≡ true) ⊎ (((has_walk_at graph off low && are_one (doubled w.start) d) || (not (is_among (doubled_of w) d) && (board_of k).is_taken d)) ≡ true) → (board_of off).is_taken d ≡ true
        by_first (inl both) = at_end up (end_point w) up_below (h.ends s w is) both
        by_first (inr rest) = by_second (or_cases (has_walk_at graph off low && are_one (doubled w.start) d) (not (is_among (doubled_of w) d) && (board_of k).is_taken d) rest)

    pub board_freed : board_of (with_walk_of k s None) ≡ without_walk (board_of k) w (has_walk_at graph (with_walk_of k s None) (ends_of graph s).0) (has_walk_at graph (with_walk_of k s None) (ends_of graph s).1)
    board_freed = λ i. record {
      bounds = k.bounds;
      is_node = (board_of k).is_node;
      is_taken = λ d. same_test ((board_of off).is_taken d) (freed d) (there d) (back d) i;
    }

-- no walk ends at a node that is taken off
pub lifted_legal : (graph : GraphParts) (k : Sketch) → IsLegalSketch graph k → (n : NodeId) → ((t : SegId) (v : PlainWalk) → walk_in k t ≡ Some v → IsEndOf graph t n.0 → ⊥) → IsLegalSketch graph (lifted k n)
lifted_legal graph k h n alone = record {
  bounds = h.bounds;
  points_each = h.points_each;
  stand_each = length-set k.stand n.0 false ∙ h.stand_each;
  walks_each = h.walks_each;
  inside = λ m e. h.inside m (stood m e);
  even = λ m e. h.even m (stood m e);
  own = λ m q e g same. h.own m q (stood m e) (stood q g) same;
  low = λ t v e. still (ends_of graph t).0.0 (h.low t v e) (λ same. alone t v e (inl same));
  up = λ t v e. still (ends_of graph t).1.0 (h.up t v e) (λ same. alone t v e (inr same));
  starts = h.starts;
  ends = h.ends;
  within = h.within;
  once = h.once;
  apart = λ t u v x d f e g i j. let m = h.apart t u v x d f e g i j in record { node = m.node; of_one = m.of_one; of_other = m.of_other; there = m.there };
  clear = λ t v m e stands i. h.clear t v m e (stood m stands) i;
  ports = h.ports;
}
  where
    lowered : (flags : List Bool) (i m : ℕ) → get_or (set flags i false) m false ≡ true → get_or flags m false ≡ true
    lowered [] i m e = e
    lowered (b ∷ bs) zero zero e = cc
    lowered (b ∷ bs) zero (suc m) e = e
    lowered (b ∷ bs) (suc i) zero e = e
    lowered (b ∷ bs) (suc i) (suc m) e = lowered bs i m e

    stood : (m : ℕ) → is_standing (lifted k n) m ≡ true → is_standing k m ≡ true
    stood m e = lowered k.stand n.0 m e

    still : (m : ℕ) → is_standing k m ≡ true → (m ≡ n.0 → ⊥) → is_standing (lifted k n) m ≡ true
    still m e f = get_or-set_other k.stand n.0 m false false f ∙ e
