-- A legal sketch stays legal where one more segment gets a walk that meets the others at its own nodes alone.
use Rattle.std.proofs.Common.{◌≡◌, sym, ◌∙◌, ap, subst, ℕ, ◌<◌, true, [], length, get_or, Option, Some, None, ◌⊎◌, inl, inr, arith, length-set, get_or-set_same, get_or-set_other}
use Rattle.std.proofs.lemmas.Bool.{cases_eq}
use Rattle.std.specs.List.{filter_map, list_all}
use Rattle.map_base.specs.declared.ids.SegId.{SegId}
use Rattle.graph_core.specs.declared.parts.GraphParts.{GraphParts}
use Rattle.graph_core.specs.Consistent.{IsConsistent}
use Rattle.line_chains.specs.Chains.{ends_of}
use Rattle.octi_grid.specs.declared.point.GridPoint.{GridPoint}
use Rattle.octi_grid.specs.Ways.{doubled}
use Rattle.octi_grid.specs.Walks.{doubled_of, end_point, points_of, PlainWalk}
use Rattle.octi_grid.specs.Legal.{are_clockwise, are_distinct, is_among}
use Rattle.grid_board.specs.Boards.{contains}
use Rattle.segment_router.specs.Routes.{port_at_node, port_by}
use Rattle.segment_router.proofs.LaidPorts.{ports_agree}
use Rattle.segment_router.proofs.MaskLemmas.{ends_round}
use Rattle.segment_router.proofs.Places.{same_seg}
use Rattle.segment_router.proofs.SettledLemmas.{which_node}
use Rattle.run_laying.specs.Laying.{board_under, Sketch}
use Rattle.run_laying.specs.Sketches.{is_standing, point_of_node, walk_in, with_walk_of, IsEndOf, IsLegalSketch, IsMeeting}

-- the ports round a node stand clockwise
abbrev pub AreClockwiseAt : GraphParts → Sketch → ℕ → Type 0
AreClockwiseAt graph k n = are_clockwise (filter_map (port_at_node graph (board_under k) n) (get_or graph.rounds n [])) ≡ true

-- a walk that a segment without one may have
pub record IsAddable (graph : GraphParts) (k : Sketch) (s : SegId) (w : PlainWalk) : Type 0 where
  pub segment : s.0 < length graph.ends
  pub free : walk_in k s ≡ None
  pub low : is_standing k (ends_of graph s).0.0 ≡ true
  pub up : is_standing k (ends_of graph s).1.0 ≡ true
  pub start : w.start ≡ point_of_node k (ends_of graph s).0.0
  pub end : end_point w ≡ point_of_node k (ends_of graph s).1.0
  pub within : list_all (contains k.bounds) (points_of w) ≡ true
  pub once : are_distinct (doubled_of w) ≡ true
  pub apart : (t : SegId) (v : PlainWalk) (d : GridPoint) → walk_in k t ≡ Some v → is_among (doubled_of w) d ≡ true → is_among (doubled_of v) d ≡ true → IsMeeting graph k s t d
  pub clear : (n : ℕ) → is_standing k n ≡ true → is_among (doubled_of w) (doubled (point_of_node k n)) ≡ true → IsEndOf graph s n
  pub leaves : AreClockwiseAt graph (with_walk_of k s (Some w)) (ends_of graph s).0.0
  pub arrives : AreClockwiseAt graph (with_walk_of k s (Some w)) (ends_of graph s).1.0

-- the walks afterwards
pub walk_new : (graph : GraphParts) (k : Sketch) (s : SegId) (o : Option PlainWalk) → length k.walks ≡ length graph.ends → s.0 < length graph.ends → walk_in (with_walk_of k s o) s ≡ o
walk_new graph k s o each below = get_or-set_same k.walks s.0 o None (omega (arith, each, below))

pub walk_other : (k : Sketch) (s t : SegId) (o : Option PlainWalk) → (t.0 ≡ s.0 → ⊥) → walk_in (with_walk_of k s o) t ≡ walk_in k t
walk_other k s t o f = get_or-set_other k.walks s.0 t.0 o None f

-- at a node that isn't an end of the segment the ports stay
pub ports_beside : (graph : GraphParts) → IsConsistent graph → (k : Sketch) (s : SegId) (o : Option PlainWalk) (n : ℕ) → n < length graph.kinds → (IsEndOf graph s n → ⊥)
    → filter_map (port_at_node graph (board_under (with_walk_of k s o)) n) (get_or graph.rounds n []) ≡ filter_map (port_at_node graph (board_under k) n) (get_or graph.rounds n [])
ports_beside graph fit k s o n h beside =
    ports_agree (port_at_node graph (board_under (with_walk_of k s o)) n) (port_at_node graph (board_under k) n) (get_or graph.rounds n [])
    (λ t m. ap (port_by (ends_of graph t) n) (walk_other k s t o (λ e. beside (subst (λ (u : SegId). IsEndOf graph u n) (same_seg t s e) (ends_round graph fit n h t m)))))

module _ (graph : GraphParts) (fit : IsConsistent graph) (k : Sketch) (s : SegId) (w : PlainWalk) (h : IsLegalSketch graph k) (a : IsAddable graph k s w) where
  abbrev pub added : Sketch
  added = with_walk_of k s (Some w)

  -- the new walk, or one that was there before
  pub which_walk : (t : SegId) (v : PlainWalk) → walk_in added t ≡ Some v → ((t ≡ s) × (w ≡ v)) ⊎ ((t.0 ≡ s.0 → ⊥) × (walk_in k t ≡ Some v))
  which_walk t v e = elim (cases_eq t.0 s.0) [
    | inl i ↦ (let same : t ≡ s = same_seg t s i in
        let both : Some w ≡ Some v = sym (walk_new graph k s (Some w) h.walks_each a.segment) ∙ ap (walk_in added) (sym same) ∙ e in
        inl (same, cc))
    | inr f ↦ inr (f, sym (walk_other k s t (Some w) f) ∙ e)
  ]

  -- what holds of the new walk, and of those before, holds of all
  each_walk : (P : SegId → PlainWalk → Type 0) → P s w → ((t : SegId) (v : PlainWalk) → walk_in k t ≡ Some v → P t v) → (t : SegId) (v : PlainWalk) → walk_in added t ≡ Some v → P t v
  each_walk P new old t v e = elim (which_walk t v e) [
    | inl i ↦ subst (λ (u : SegId). P u v) (sym i.0) (subst (λ (x : PlainWalk). P s x) i.1 new)
    | inr i ↦ old t v i.1
  ]

  turned_meeting : (t u : SegId) (d : GridPoint) → IsMeeting graph k t u d → IsMeeting graph k u t d
  turned_meeting t u d m = record { node = m.node; of_one = m.of_other; of_other = m.of_one; there = m.there }

  moved_meeting : (t u : SegId) (d : GridPoint) → IsMeeting graph k t u d → IsMeeting graph added t u d
  moved_meeting t u d m = record { node = m.node; of_one = m.of_one; of_other = m.of_other; there = m.there }

  apart_then : (t u : SegId) (v x : PlainWalk) (d : GridPoint) → (t.0 ≡ u.0 → ⊥) → walk_in added t ≡ Some v → walk_in added u ≡ Some x → is_among (doubled_of v) d ≡ true → is_among (doubled_of x) d ≡ true → IsMeeting graph added t u d
  apart_then t u v x d f e g i j = moved_meeting t u d (by_walks (which_walk t v e) (which_walk u x g))
    where
      by_walks : ((t ≡ s) × (w ≡ v)) ⊎ ((t.0 ≡ s.0 → ⊥) × (walk_in k t ≡ Some v)) → ((u ≡ s) × (w ≡ x)) ⊎ ((u.0 ≡ s.0 → ⊥) × (walk_in k u ≡ Some x)) → IsMeeting graph k t u d
      by_walks (inl one) (inl other) = absurd (f (ap (λ (q : SegId). q.0) (one.0 ∙ sym other.0)))
      by_walks (inl one) (inr other) =
          subst (λ (q : SegId). IsMeeting graph k q u d) (sym one.0) (a.apart u x d other.1 (ap (λ (y : PlainWalk). is_among (doubled_of y) d) one.1 ∙ i) j)
      by_walks (inr one) (inl other) =
          turned_meeting u t d (subst (λ (q : SegId). IsMeeting graph k q t d) (sym other.0) (a.apart t v d one.1 (ap (λ (y : PlainWalk). is_among (doubled_of y) d) other.1 ∙ j) i))
      by_walks (inr one) (inr other) = h.apart t u v x d f one.1 other.1 i j

  ports_then : (n : ℕ) → n < length graph.kinds → AreClockwiseAt graph added n
  ports_then n below = by_node (which_node (ends_of graph s).0.0 (ends_of graph s).1.0 n)
    where
      neither : (n ≡ (ends_of graph s).0.0 → ⊥) × (n ≡ (ends_of graph s).1.0 → ⊥) → IsEndOf graph s n → ⊥
      neither f (inl e) = f.0 (sym e)
      neither f (inr e) = f.1 (sym e)

      by_node : (n ≡ (ends_of graph s).0.0) ⊎ ((n ≡ (ends_of graph s).1.0) ⊎ ((n ≡ (ends_of graph s).0.0 → ⊥) × (n ≡ (ends_of graph s).1.0 → ⊥))) → AreClockwiseAt graph added n
      by_node (inl e) = subst (AreClockwiseAt graph added) (sym e) a.leaves
      by_node (inr (inl e)) = subst (AreClockwiseAt graph added) (sym e) a.arrives
      by_node (inr (inr f)) = ap are_clockwise (ports_beside graph fit k s (Some w) n below (neither f)) ∙ h.ports n below

  pub added_legal : IsLegalSketch graph added
  added_legal = record {
    bounds = h.bounds;
    points_each = h.points_each;
    stand_each = h.stand_each;
    walks_each = length-set k.walks s.0 (Some w) ∙ h.walks_each;
    inside = h.inside;
    even = h.even;
    own = h.own;
    low = each_walk (λ (t : SegId) (v : PlainWalk). is_standing k (ends_of graph t).0.0 ≡ true) a.low h.low;
    up = each_walk (λ (t : SegId) (v : PlainWalk). is_standing k (ends_of graph t).1.0 ≡ true) a.up h.up;
    starts = each_walk (λ (t : SegId) (v : PlainWalk). v.start ≡ point_of_node k (ends_of graph t).0.0) a.start h.starts;
    ends = each_walk (λ (t : SegId) (v : PlainWalk). end_point v ≡ point_of_node k (ends_of graph t).1.0) a.end h.ends;
    within = each_walk (λ (t : SegId) (v : PlainWalk). list_all (contains k.bounds) (points_of v) ≡ true) a.within h.within;
    once = each_walk (λ (t : SegId) (v : PlainWalk). are_distinct (doubled_of v) ≡ true) a.once h.once;
    apart = apart_then;
    clear = λ t v n e stands met.
        each_walk (λ (u : SegId) (x : PlainWalk). is_among (doubled_of x) (doubled (point_of_node k n)) ≡ true → IsEndOf graph u n) (λ i. a.clear n stands i) (λ u x g i. h.clear u x n g stands i) t v e met;
    ports = ports_then;
  }
