-- A legal drawing from which runs are taken away, and whose nodes have moved, is a legal sketch.
use Rattle.std.proofs.Common.{◌≡◌, refl, sym, ◌∙◌, ap, subst, ℕ, zero, suc, ◌+◌, ◌%◌, ◌<◌, Bool, true, false, not, cond, eqb, ◌&&◌, ◌||◌, List, [], length, get_or, replicate, slice_get, Some, None, ℤ, ◌+ℤ◌, unsigned_abs, ◌⊎◌, inl, inr, arith}
use Rattle.std.proofs.lemmas.Int.{ints}
use Rattle.std.proofs.lemmas.Bool.{and_from, and_parts, cases_Bool, cases_lt, eqb-true, eq-eqb, not-true, or_cases, true≢false}
use Rattle.std.proofs.lemmas.List.{get_or_default, get_or_past}
use Rattle.std.proofs.lemmas.List.FromFn.{get_or-map-range_with_len, get_or-range_with_len, length-map-range_with_len, length-range_with_len}
use Rattle.std.proofs.lemmas.Option.{slice_get-get_or}
use Rattle.std.specs.List.{filter_map, list_all, list_any, range_with_len}
use Rattle.map_base.specs.declared.ids.NodeId.{NodeId}
use Rattle.map_base.specs.declared.ids.SegId.{SegId}
use Rattle.graph_core.specs.declared.parts.GraphParts.{GraphParts}
use Rattle.graph_core.specs.Consistent.{IsConsistent}
use Rattle.line_chains.specs.declared.chain.Chain.{Chain}
use Rattle.line_chains.specs.declared.chain.ChainStep.{ChainStep}
use Rattle.line_chains.specs.Chains.{ends_of, round_of}
use Rattle.octi_grid.specs.declared.dir.Dir.{Dir}
use Rattle.octi_grid.specs.declared.point.GridPoint.{GridPoint}
use Rattle.octi_grid.specs.Ways.{after, are_one, doubled, east_of, north_of, step_from}
use Rattle.octi_grid.specs.Walks.{doubled_of, end_point, points_of, PlainWalk}
use Rattle.octi_grid.specs.Legal.{are_clockwise, are_distinct, is_among, is_even, legs_of, port_of, port_where, puts_by, Leg, Put}
use Rattle.octi_grid.proofs.Fronts.{clockwise_fewer, IsSameOrNone}
use Rattle.octi_grid.proofs.LegalLemmas.{some_or_none}
use Rattle.octi_grid.proofs.Members.{all_at, among_at, among_from, any_at, any_from, are_one_from, false_from, in_flat_map, In}
use Rattle.octi_grid.proofs.MeetsLemmas.{apart_at, CommonEnd}
use Rattle.octi_grid.proofs.PortsLemmas.{ports_at_node}
use Rattle.grid_board.specs.declared.bounds.Bounds.{Bounds}
use Rattle.grid_board.specs.Boards.{contains}
use Rattle.segment_router.specs.Routes.{port_at_node, port_by}
use Rattle.segment_router.proofs.ClearNodes.{undoubled}
use Rattle.segment_router.proofs.Places.{all_in, in_at}
use Rattle.segment_router.proofs.SettledLemmas.{nowhere}
use Rattle.drawing_weights.specs.Weights.{point_of}
use Rattle.drawing_weights.proofs.DrawnFacts.{apart_between, leg_in, leg_of_walk, leg_place, low_put, meets_fit, no_way, node_apart, node_even, node_holds, parts_of_legal, put_at, put_point, up_put, PutAt}
use Rattle.run_laying.specs.Attempts.{comes_over_point, has_node, inner_nodes, is_inner, is_on_runs, may_move, may_move_to, point_in_attempt, stands_at, walk_beside, without_runs, Attempt}
use Rattle.run_laying.specs.Drawings.{IsOnBoard}
use Rattle.run_laying.specs.Laying.{board_under, Sketch}
use Rattle.run_laying.specs.Runs.{IsFitting, IsRun}
use Rattle.run_laying.specs.Sketches.{is_standing, point_of_node, walk_in, IsEndOf, IsLegalSketch, IsMeeting}
use Rattle.run_laying.proofs.Reversed.{back_to, turned}
use Rattle.run_laying.proofs.RunFacts.{end_below, in_round, inner_of, inner_off, IsOff}
use Rattle.run_laying.proofs.Shown.{in_walks}

-- an even number of steps in one direction keeps a point even
even_twice : (x e : ℤ) → unsigned_abs x % 2 ≡ 0 → unsigned_abs ((x +ℤ e) +ℤ e) % 2 ≡ 0
even_twice x e h = omega (arith, ints)

two_even : (p : GridPoint) (d : Dir) → is_even p ≡ true → is_even (step_from (step_from p d) d) ≡ true
two_even p d e =
    let parts = and_parts (eqb (unsigned_abs p.x % 2) 0) (eqb (unsigned_abs p.y % 2) 0) e in
    let q : GridPoint = step_from (step_from p d) d in
    and_from (eqb (unsigned_abs q.x % 2) 0) (eqb (unsigned_abs q.y % 2) 0)
    (eq-eqb (unsigned_abs q.x % 2) 0 (even_twice p.x (east_of d) (eqb-true (unsigned_abs p.x % 2) 0 parts.0)))
    (eq-eqb (unsigned_abs q.y % 2) 0 (even_twice p.y (north_of d) (eqb-true (unsigned_abs p.y % 2) 0 parts.1)))

pub steps_even : (p : GridPoint) (d : Dir) (n : ℕ) → n % 2 ≡ 0 → is_even p ≡ true → is_even (after p (replicate n d)) ≡ true
steps_even p d zero h e = e
steps_even p d (suc zero) h e = absurd (omega (arith, h))
steps_even p d (suc (suc n)) h e = steps_even (step_from (step_from p d) d) d n (omega (arith, h)) (two_even p d e)

-- and two points stay apart
steps_apart : (p q : GridPoint) (ds : List Dir) → after p ds ≡ after q ds → p ≡ q
steps_apart p q ds e = sym (back_to p ds) ∙ ap (λ (r : GridPoint). after r (turned ds)) e ∙ back_to q ds

pub in_range : (n m : ℕ) → m < n → In m (range_with_len 0 n)
in_range n m h =
    let there : get_or (range_with_len 0 n) m 0 ≡ m = get_or-range_with_len 0 n m 0 h ∙ omega arith in
    subst (λ k. In k (range_with_len 0 n)) there (in_at (range_with_len 0 n) m 0 (omega (arith, h, length-range_with_len 0 n)))

module _ (graph : GraphParts) (fit : IsConsistent graph) (bounds : Bounds) (walks : List PlainWalk) (on_board : IsOnBoard graph bounds walks) (a : Attempt) (fits : IsFitting graph a) where
  abbrev pub k0 : Sketch
  k0 = without_runs graph bounds walks a

  -- ---- the drawing itself

  abbrev pub walk_of : SegId → PlainWalk
  walk_of s = get_or walks s.0 no_way

  leg_at : (s : SegId) → s.0 < length graph.ends → slice_get (legs_of graph.ends walks) s.0 ≡ Some (let l : Leg = (ends_of graph s, walk_of s) in l)
  leg_at s h =
      leg_place graph.ends walks s.0 (ends_of graph s) (walk_of s) (slice_get-get_or graph.ends s.0 (record { 0 = 0 }, record { 0 = 0 }) h)
      (slice_get-get_or walks s.0 no_way (omega (arith, h, on_board.drawn.each)))

  in_legs : (s : SegId) → s.0 < length graph.ends → In (let l : Leg = (ends_of graph s, walk_of s) in l) (legs_of graph.ends walks)
  in_legs s h =
      leg_in graph.ends walks s.0 (ends_of graph s) (walk_of s) (slice_get-get_or graph.ends s.0 (record { 0 = 0 }, record { 0 = 0 }) h)
      (slice_get-get_or walks s.0 no_way (omega (arith, h, on_board.drawn.each)))

  drawn_start : (s : SegId) → s.0 < length graph.ends → (walk_of s).start ≡ point_of graph walks (ends_of graph s).0.0
  drawn_start s h = sym (low_put graph walks on_board.drawn (ends_of graph s, walk_of s) (in_legs s h))

  drawn_end : (s : SegId) → s.0 < length graph.ends → end_point (walk_of s) ≡ point_of graph walks (ends_of graph s).1.0
  drawn_end s h = sym (up_put graph walks on_board.drawn (ends_of graph s, walk_of s) (in_legs s h))

  own_end : (s : SegId) (put : Put) → In put (puts_by (let l : Leg = (ends_of graph s, walk_of s) in l)) → IsEndOf graph s put.0
  own_end s put (inl e) = inl (ap (λ (q : Put). q.0) (sym e))
  own_end s put (inr (inl e)) = inr (ap (λ (q : Put). q.0) (sym e))
  own_end s put (inr (inr m)) = absurd m

  -- two walks meet at a node of both
  record DrawnMeeting (s t : SegId) (d : GridPoint) : Type 0 where
    node : ℕ
    of_one : IsEndOf graph s node
    of_other : IsEndOf graph t node
    there : doubled (point_of graph walks node) ≡ d

  common_meeting : (s t : SegId) (d : GridPoint) → t.0 < length graph.ends → CommonEnd (let l : Leg = (ends_of graph s, walk_of s) in l) (let l : Leg = (ends_of graph t, walk_of t) in l) d → DrawnMeeting s t d
  common_meeting s t d h c = record {
    node = c.other.0;
    of_one = subst (IsEndOf graph s) c.one_node (own_end s c.one c.of_one);
    of_other = own_end t c.other c.of_other;
    there = ap doubled (put_point graph walks on_board.drawn c.other (in_flat_map puts_by (legs_of graph.ends walks) (ends_of graph t, walk_of t) c.other (in_legs t h) c.of_other)) ∙ c.there;
  }

  ordered_meeting : (s t : SegId) (d : GridPoint) → s.0 < t.0 → s.0 < length graph.ends → t.0 < length graph.ends → In d (doubled_of (walk_of s)) → In d (doubled_of (walk_of t)) → DrawnMeeting s t d
  ordered_meeting s t d less h j m n =
      common_meeting s t d j
      (apart_at (ends_of graph s, walk_of s) (ends_of graph t, walk_of t) d
      (apart_between (legs_of graph.ends walks) s.0 t.0 (ends_of graph s, walk_of s) (ends_of graph t, walk_of t) (meets_fit graph walks on_board.drawn).apart less (leg_at s h) (leg_at t j)) m n)

  drawn_meeting : (s t : SegId) (d : GridPoint) → (s.0 ≡ t.0 → ⊥) → s.0 < length graph.ends → t.0 < length graph.ends → In d (doubled_of (walk_of s)) → In d (doubled_of (walk_of t)) → DrawnMeeting s t d
  drawn_meeting s t d f h j m n = elim (cases_lt s.0 t.0) [
    | inl less ↦ ordered_meeting s t d less h j m n
    | inr more ↦ (let met = ordered_meeting t s d (omega (arith, f, more)) j h n m in record { node = met.node; of_one = met.of_other; of_other = met.of_one; there = met.there })
  ]

  drawn_clear : (s : SegId) (n : ℕ) → s.0 < length graph.ends → n < length graph.kinds → In (doubled (point_of graph walks n)) (doubled_of (walk_of s)) → IsEndOf graph s n
  drawn_clear s n h node m =
      let put = put_at graph fit walks on_board.drawn n node in
      by_test put (or_cases (eqb (ends_of graph s).0.0 put.put.0 || eqb (ends_of graph s).1.0 put.put.0) (not (is_among (doubled_of (walk_of s)) (doubled put.put.1)))
      ((meets_fit graph walks on_board.drawn).clear (ends_of graph s, walk_of s) put.put (in_legs s h) put.there))
    where
      by_test : (put : PutAt graph walks n) → ((eqb (ends_of graph s).0.0 put.put.0 || eqb (ends_of graph s).1.0 put.put.0) ≡ true) ⊎ (not (is_among (doubled_of (walk_of s)) (doubled put.put.1)) ≡ true) → IsEndOf graph s n
      by_test put (inl t) =
          elim (or_cases (eqb (ends_of graph s).0.0 put.put.0) (eqb (ends_of graph s).1.0 put.put.0) t) [
            | inl u ↦ inl (eqb-true (ends_of graph s).0.0 put.put.0 u ∙ put.node)
            | inr u ↦ inr (eqb-true (ends_of graph s).1.0 put.put.0 u ∙ put.node)
          ]
      by_test put (inr t) =
          absurd (true≢false (sym (among_from (doubled_of (walk_of s)) (doubled put.put.1) (subst (λ (q : GridPoint). In (doubled q) (doubled_of (walk_of s))) put.point m)) ∙ not-true (is_among (doubled_of (walk_of s)) (doubled put.put.1)) t))

  -- ---- what is left of it

  record IsLeft (s : SegId) (w : PlainWalk) : Type 0 where
    below : s.0 < length graph.ends
    off : is_on_runs a.runs s.0 ≡ false
    is : walk_of s ≡ w

  pub left_walk : (s : SegId) → s.0 < length graph.ends → walk_in k0 s ≡ walk_beside walks a.runs s.0
  left_walk s h = get_or-map-range_with_len (walk_beside walks a.runs) 0 (length graph.ends) s.0 s.0 None h (omega arith)

  left_of : (s : SegId) (w : PlainWalk) → walk_in k0 s ≡ Some w → IsLeft s w
  left_of s w e = elim (cases_lt s.0 (length graph.ends)) [
    | inl h ↦ by_test h (is_on_runs a.runs s.0) refl (sym (left_walk s h) ∙ e)
    | inr past ↦ (let none : None ≡ Some w = sym (get_or_past k0.walks s.0 None (omega (arith, past, length-map-range_with_len (walk_beside walks a.runs) 0 (length graph.ends)))) ∙ e in cc)
  ]
    where
      by_test : s.0 < length graph.ends → (t : Bool) → is_on_runs a.runs s.0 ≡ t → cond t None (Some (walk_of s)) ≡ Some w → IsLeft s w
      by_test h true on there = cc
      by_test h false off there = record { below = h; off = off; is = cc }

  -- nodes that stand
  record IsStanding (n : ℕ) : Type 0 where
    node : n < length graph.kinds
    outer : is_inner a.runs n ≡ false

  pub flag_at : (n : ℕ) → n < length graph.kinds → is_standing k0 n ≡ not (is_inner a.runs n)
  flag_at n h = get_or-map-range_with_len (λ n. not (is_inner a.runs n)) 0 (length graph.kinds) n n false h (omega arith)

  stands_of : (n : ℕ) → is_standing k0 n ≡ true → IsStanding n
  stands_of n e = elim (cases_lt n (length graph.kinds)) [
    | inl h ↦ record { node = h; outer = not-true (is_inner a.runs n) (sym (flag_at n h) ∙ e) }
    | inr past ↦ absurd (true≢false (sym e ∙ get_or_past k0.stand n false (omega (arith, past, length-map-range_with_len (λ n. not (is_inner a.runs n)) 0 (length graph.kinds)))))
  ]

  pub stands_from : (n : ℕ) → n < length graph.kinds → is_inner a.runs n ≡ false → is_standing k0 n ≡ true
  stands_from n h outer = flag_at n h ∙ ap not outer

  point_at : (n : ℕ) → n < length graph.kinds → point_of_node k0 n ≡ point_in_attempt graph walks a n
  point_at n h = get_or-map-range_with_len (point_in_attempt graph walks a) 0 (length graph.kinds) n n nowhere h (omega arith)

  point_still : (n : ℕ) → n < length graph.kinds → has_node a.nodes n ≡ false → point_of_node k0 n ≡ point_of graph walks n
  point_still n h e = point_at n h ∙ ap (λ b. cond b (after (point_of graph walks n) (replicate a.count a.dir)) (point_of graph walks n)) e

  point_moved : (n : ℕ) → n < length graph.kinds → has_node a.nodes n ≡ true → point_of_node k0 n ≡ after (point_of graph walks n) (replicate a.count a.dir)
  point_moved n h e = point_at n h ∙ ap (λ b. cond b (after (point_of graph walks n) (replicate a.count a.dir)) (point_of graph walks n)) e

  -- an end of a segment off the runs stands, and doesn't move
  off_runs : (s : SegId) → is_on_runs a.runs s.0 ≡ false → (c : Chain) → In c a.runs → IsOff c.steps s
  off_runs s off c m q on same =
      true≢false (sym (any_from (λ (c : Chain). list_any (λ (t : ChainStep). eqb t.seg.0 s.0) c.steps) a.runs c m (any_from (λ (t : ChainStep). eqb t.seg.0 s.0) c.steps q on (eq-eqb q.seg.0 s.0 same))) ∙ off)

  pub run_in : (c : Chain) → In c a.runs → IsRun graph c
  run_in c m = all_in (IsRun graph) a.runs c fits.runs m

  end_outer : (s : SegId) (n : ℕ) → s.0 < length graph.ends → is_on_runs a.runs s.0 ≡ false → IsEndOf graph s n → is_inner a.runs n ≡ false
  end_outer s n below off is_end = false_from (is_inner a.runs n) (λ e. by_run (any_at (λ (c : Chain). has_node (inner_nodes c.steps) n) a.runs e))
    where
      by_node : (c : Chain) → In c a.runs → (m : NodeId) × In m (inner_nodes c.steps) × (eqb m.0 n ≡ true) → ⊥
      by_node c on (m, inner, same) =
          inner_off graph fit c.steps m (inner_of graph fit c.from c.steps (run_in c on).steps m inner) s below (off_runs s off c on) (subst (IsEndOf graph s) (sym (eqb-true m.0 n same)) is_end)

      by_run : (c : Chain) × In c a.runs × (has_node (inner_nodes c.steps) n ≡ true) → ⊥
      by_run (c, on, e) = by_node c on (any_at (λ (m : NodeId). eqb m.0 n) (inner_nodes c.steps) e)

  end_still : (s : SegId) (n : ℕ) → s.0 < length graph.ends → is_on_runs a.runs s.0 ≡ false → IsEndOf graph s n → has_node a.nodes n ≡ false
  end_still s n below off is_end = false_from (has_node a.nodes n) (λ e. by_node (any_at (λ (m : NodeId). eqb m.0 n) a.nodes e))
    where
      by_node : (m : NodeId) × In m a.nodes × (eqb m.0 n ≡ true) → ⊥
      by_node (m, moves, same) =
          let here : IsEndOf graph s m.0 = subst (IsEndOf graph s) (sym (eqb-true m.0 n same)) is_end in
          let round = in_round graph fit s m.0 below (end_below graph fit s m.0 below here) here in
          true≢false (sym (all_in (λ (t : SegId). is_on_runs a.runs t.0 ≡ true) (round_of graph m) s (all_in (λ (i : NodeId). (j : ℕ) (d : SegId) → j < length (round_of graph i) → is_on_runs a.runs (get_or (round_of graph i) j d).0 ≡ true) a.nodes m fits.all moves) round) ∙ off)

  left_end : (s : SegId) (w : PlainWalk) → walk_in k0 s ≡ Some w → (n : ℕ) → IsEndOf graph s n → (is_standing k0 n ≡ true) × (point_of_node k0 n ≡ point_of graph walks n)
  left_end s w e n is_end =
      let left = left_of s w e in
      let node = end_below graph fit s n left.below is_end in
      (stands_from n node (end_outer s n left.below left.off is_end), point_still n node (end_still s n left.below left.off is_end))

  -- ---- nodes that may move

  module _ (may : may_move k0 a.nodes ≡ true) where
    moved_may : (n : ℕ) → has_node a.nodes n ≡ true → may_move_to k0 a.nodes (point_of_node k0 n) ≡ true
    moved_may n e = by_node (any_at (λ (m : NodeId). eqb m.0 n) a.nodes e)
      where
        by_node : (m : NodeId) × In m a.nodes × (eqb m.0 n ≡ true) → may_move_to k0 a.nodes (point_of_node k0 n) ≡ true
        by_node (m, moves, same) = subst (λ i. may_move_to k0 a.nodes (point_of_node k0 i) ≡ true) (eqb-true m.0 n same) (all_at (λ (i : NodeId). may_move_to k0 a.nodes (point_of_node k0 i.0)) a.nodes m may moves)

    moved_parts : (n : ℕ) → has_node a.nodes n ≡ true
        → (contains bounds (point_of_node k0 n) ≡ true) × (list_any (stands_at k0 a.nodes (point_of_node k0 n)) (range_with_len 0 (length k0.points)) ≡ false) × (list_any (comes_over_point (point_of_node k0 n)) k0.walks ≡ false)
    moved_parts n e =
        let p = point_of_node k0 n in
        let others = list_any (stands_at k0 a.nodes p) (range_with_len 0 (length k0.points)) in
        let over = list_any (comes_over_point p) k0.walks in
        let parts = and_parts (contains bounds p) (not others && not over) (moved_may n e) in
        let rest = and_parts (not others) (not over) parts.1 in
        (parts.0, not-true others rest.0, not-true over rest.1)

    -- a fact of points of the drawing, and of those to which nodes move, is one of nodes that stand
    by_move : (P : ℕ → Type 0) → ((n : ℕ) → IsStanding n → has_node a.nodes n ≡ true → P n) → ((n : ℕ) → IsStanding n → has_node a.nodes n ≡ false → P n) → (n : ℕ) → is_standing k0 n ≡ true → P n
    by_move P moves stays n e = elim (cases_Bool (has_node a.nodes n)) [
      | inl t ↦ moves n (stands_of n e) t
      | inr f ↦ stays n (stands_of n e) f
    ]

    points_inside : (n : ℕ) → is_standing k0 n ≡ true → contains bounds (point_of_node k0 n) ≡ true
    points_inside =
        by_move (λ n. contains bounds (point_of_node k0 n) ≡ true) (λ n h e. (moved_parts n e).0)
        (λ n h e. ap (contains bounds) (point_still n h.node e) ∙ node_holds graph fit walks on_board.drawn (contains bounds) on_board.within n h.node)

    points_even : (n : ℕ) → is_standing k0 n ≡ true → is_even (point_of_node k0 n) ≡ true
    points_even =
        by_move (λ n. is_even (point_of_node k0 n) ≡ true)
        (λ n h e. ap is_even (point_moved n h.node e) ∙ steps_even (point_of graph walks n) a.dir a.count fits.even (node_even graph fit walks on_board.drawn n h.node))
        (λ n h e. ap is_even (point_still n h.node e) ∙ node_even graph fit walks on_board.drawn n h.node)

    moved_own : (n m : ℕ) → has_node a.nodes n ≡ true → has_node a.nodes m ≡ false → is_standing k0 m ≡ true → point_of_node k0 n ≡ point_of_node k0 m → ⊥
    moved_own n m moves stays stands same =
        let node : m < length k0.points = omega (arith, (stands_of m stands).node, length-map-range_with_len (point_in_attempt graph walks a) 0 (length graph.kinds)) in
        true≢false
        (sym (any_from (stands_at k0 a.nodes (point_of_node k0 n)) (range_with_len 0 (length k0.points)) m (in_range (length k0.points) m node)
        (and_from (is_standing k0 m) (not (has_node a.nodes m) && are_one (get_or k0.points m (point_of_node k0 n)) (point_of_node k0 n)) stands
        (and_from (not (has_node a.nodes m)) (are_one (get_or k0.points m (point_of_node k0 n)) (point_of_node k0 n)) (ap not stays)
        (are_one_from (get_or k0.points m (point_of_node k0 n)) (point_of_node k0 n) (get_or_default k0.points m (point_of_node k0 n) nowhere node ∙ sym same)))))
        ∙ (moved_parts n moves).1)

    points_own : (n m : ℕ) → is_standing k0 n ≡ true → is_standing k0 m ≡ true → point_of_node k0 n ≡ point_of_node k0 m → n ≡ m
    points_own n m e g same = by_tests (cases_Bool (has_node a.nodes n)) (cases_Bool (has_node a.nodes m))
      where
        h : n < length graph.kinds
        h = (stands_of n e).node

        j : m < length graph.kinds
        j = (stands_of m g).node

        by_tests : (has_node a.nodes n ≡ true) ⊎ (has_node a.nodes n ≡ false) → (has_node a.nodes m ≡ true) ⊎ (has_node a.nodes m ≡ false) → n ≡ m
        by_tests (inl t) (inl u) =
            node_apart graph fit walks on_board.drawn n m h j
            (steps_apart (point_of graph walks n) (point_of graph walks m) (replicate a.count a.dir) (sym (point_moved n h t) ∙ same ∙ point_moved m j u))
        by_tests (inl t) (inr f) = absurd (moved_own n m t f g same)
        by_tests (inr f) (inl u) = absurd (moved_own m n u f e (sym same))
        by_tests (inr f) (inr i) = node_apart graph fit walks on_board.drawn n m h j (sym (point_still n h f) ∙ same ∙ point_still m j i)

    walks_apart : (s t : SegId) (v w : PlainWalk) (d : GridPoint) → (s.0 ≡ t.0 → ⊥) → walk_in k0 s ≡ Some v → walk_in k0 t ≡ Some w → is_among (doubled_of v) d ≡ true → is_among (doubled_of w) d ≡ true → IsMeeting graph k0 s t d
    walks_apart s t v w d f e g i j =
        let one = left_of s v e in
        let other = left_of t w g in
        let met = drawn_meeting s t d f one.below other.below (subst (λ (x : PlainWalk). In d (doubled_of x)) (sym one.is) (among_at (doubled_of v) d i)) (subst (λ (x : PlainWalk). In d (doubled_of x)) (sym other.is) (among_at (doubled_of w) d j)) in
        record { node = met.node; of_one = met.of_one; of_other = met.of_other; there = ap doubled (left_end s v e met.node met.of_one).1 ∙ met.there }

    walks_clear : (s : SegId) (w : PlainWalk) (n : ℕ) → walk_in k0 s ≡ Some w → is_standing k0 n ≡ true → is_among (doubled_of w) (doubled (point_of_node k0 n)) ≡ true → IsEndOf graph s n
    walks_clear s w n e stands i = elim (cases_Bool (has_node a.nodes n)) [
      | inl t ↦ absurd (true≢false
          (sym (any_from (comes_over_point (point_of_node k0 n)) k0.walks (Some w) (in_walks k0.walks s.0 w e) (among_from (points_of w) (point_of_node k0 n) (undoubled (point_of_node k0 n) w.start w.steps here)))
          ∙ (moved_parts n t).2))
      | inr f ↦ (let left = left_of s w e in
          let node = (stands_of n stands).node in
          drawn_clear s n left.below node (subst (λ (x : PlainWalk). In (doubled (point_of graph walks n)) (doubled_of x)) (sym left.is) (subst (λ (q : GridPoint). In (doubled q) (doubled_of w)) (point_still n node f) here)))
    ]
      where
        here : In (doubled (point_of_node k0 n)) (doubled_of w)
        here = among_at (doubled_of w) (doubled (point_of_node k0 n)) i

    same_port : (n : ℕ) (s : SegId) → IsSameOrNone (port_at_node graph (board_under k0) n s) (port_of (legs_of graph.ends walks) n s)
    same_port n s = by_walk (some_or_none (walk_in k0 s))
      where
        by_walk : ((w : PlainWalk) × (walk_in k0 s ≡ Some w)) ⊎ (walk_in k0 s ≡ None) → IsSameOrNone (port_at_node graph (board_under k0) n s) (port_of (legs_of graph.ends walks) n s)
        by_walk (inl (w, e)) =
            let left = left_of s w e in
            inr (ap (port_by (ends_of graph s) n) (e ∙ ap (λ (x : PlainWalk). Some x) (sym left.is)) ∙ sym (ap (port_where n) (leg_at s left.below)))
        by_walk (inr e) = inl (ap (port_by (ends_of graph s) n) e)

    ports_clockwise : (n : ℕ) → n < length graph.kinds → are_clockwise (filter_map (port_at_node graph (board_under k0) n) (get_or graph.rounds n [])) ≡ true
    ports_clockwise n h =
        let below : n < length graph.rounds = omega (arith, h, fit.round_each) in
        let same : n ≡ 0 + n = omega arith in
        clockwise_fewer (port_at_node graph (board_under k0) n) (port_of (legs_of graph.ends walks) n) (get_or graph.rounds n []) (same_port n)
        (ap (λ v. are_clockwise (filter_map (port_of (legs_of graph.ends walks) v) (get_or graph.rounds n []))) same
        ∙ ports_at_node (legs_of graph.ends walks) 0 graph.rounds n (parts_of_legal graph walks on_board.drawn.legal).ports below)

    pub begun_legal : IsLegalSketch graph (without_runs graph bounds walks a)
    begun_legal = record {
      bounds = on_board.bounds_fit;
      points_each = length-map-range_with_len (point_in_attempt graph walks a) 0 (length graph.kinds);
      stand_each = length-map-range_with_len (λ n. not (is_inner a.runs n)) 0 (length graph.kinds);
      walks_each = length-map-range_with_len (walk_beside walks a.runs) 0 (length graph.ends);
      inside = points_inside;
      even = points_even;
      own = points_own;
      low = λ s w e. (left_end s w e (ends_of graph s).0.0 (inl refl)).0;
      up = λ s w e. (left_end s w e (ends_of graph s).1.0 (inr refl)).0;
      starts = λ s w e. ap (λ (x : PlainWalk). x.start) (sym (left_of s w e).is) ∙ drawn_start s (left_of s w e).below ∙ sym (left_end s w e (ends_of graph s).0.0 (inl refl)).1;
      ends = λ s w e. ap end_point (sym (left_of s w e).is) ∙ drawn_end s (left_of s w e).below ∙ sym (left_end s w e (ends_of graph s).1.0 (inr refl)).1;
      within = λ s w e.
          let left = left_of s w e in
          subst (λ (x : PlainWalk). list_all (contains bounds) (points_of x) ≡ true) left.is
          (all_at (λ (x : PlainWalk). list_all (contains bounds) (points_of x)) walks (walk_of s) on_board.within (leg_of_walk graph.ends walks (ends_of graph s, walk_of s) (in_legs s left.below)));
      once = λ s w e.
          let left = left_of s w e in subst (λ (x : PlainWalk). are_distinct (doubled_of x) ≡ true) left.is ((meets_fit graph walks on_board.drawn).distinct (ends_of graph s, walk_of s) (in_legs s left.below));
      apart = walks_apart;
      clear = walks_clear;
      ports = ports_clockwise;
    }
