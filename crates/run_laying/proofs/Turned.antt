-- The walk of a segment that is walked from one of its ends: as it is, or from its end.
use Rattle.std.proofs.Common.{◌≡◌, refl, sym, ◌∙◌, ap, subst, ℕ, ◌<◌, true, cond, [], length, get_or, Some, None, ◌⊎◌, inl, inr}
use Rattle.std.proofs.lemmas.Bool.{cases_eq, eq-eqb, ne_eqb}
use Rattle.std.specs.List.{filter_map, list_all}
use Rattle.map_base.specs.declared.ids.NodeId.{NodeId}
use Rattle.map_base.specs.declared.ids.SegId.{SegId}
use Rattle.graph_core.specs.declared.parts.GraphParts.{GraphParts}
use Rattle.line_chains.specs.declared.chain.ChainStep.{ChainStep}
use Rattle.line_chains.specs.Chains.{ends_of}
use Rattle.octi_grid.specs.declared.dir.Dir.{Dir}
use Rattle.octi_grid.specs.declared.point.GridPoint.{GridPoint}
use Rattle.octi_grid.specs.Ways.{doubled}
use Rattle.octi_grid.specs.Walks.{doubled_of, end_point, end_port, points_of, start_port, PlainWalk}
use Rattle.octi_grid.specs.Legal.{are_clockwise, are_distinct, is_among}
use Rattle.octi_grid.proofs.Members.{among_at, In}
use Rattle.grid_board.specs.Boards.{contains}
use Rattle.segment_router.specs.Ports.{with_port}
use Rattle.segment_router.specs.Routes.{port_at_node, port_by}
use Rattle.segment_router.proofs.LaidPorts.{ports_agree}
use Rattle.segment_router.proofs.Places.{same_seg}
use Rattle.run_laying.specs.Laying.{board_under, from_low, Sketch}
use Rattle.run_laying.specs.Pieces.{reversed_walk}
use Rattle.run_laying.specs.Runs.{LeadsTo}
use Rattle.run_laying.specs.Sketches.{is_standing, point_of_node, walk_in, with_walk_of, IsEndOf, IsMeeting}
use Rattle.run_laying.proofs.Added.{walk_new, walk_other, AreClockwiseAt, IsAddable}
use Rattle.run_laying.proofs.Reversed.{back_doubled, back_end, back_end_port, back_once, back_start_port, back_within}

-- a segment leads from one node to another, and the walk x goes over it as v does, from its lower end
abbrev pub IsTurned : GraphParts → SegId → ℕ → ℕ → PlainWalk → PlainWalk → Type 0
IsTurned graph s n m v x =
    (((ends_of graph s).0.0 ≡ n) × ((ends_of graph s).1.0 ≡ m) × (x ≡ v)) ⊎ (((ends_of graph s).0.0 ≡ m) × ((ends_of graph s).1.0 ≡ n) × (x ≡ reversed_walk v))

pub turned_of : (graph : GraphParts) (n : NodeId) (t : ChainStep) (v : PlainWalk) → LeadsTo graph n t → (n.0 ≡ t.to.0 → ⊥) → IsTurned graph t.seg n.0 t.to.0 v (from_low graph t.seg n v)
turned_of graph n t v (inl e) apart =
    let low : (ends_of graph t.seg).0.0 ≡ n.0 = ap (λ (p : NodeId × NodeId). p.0.0) e in
    inl (low, ap (λ (p : NodeId × NodeId). p.1.0) e, ap (λ b. cond b v (reversed_walk v)) (eq-eqb (ends_of graph t.seg).0.0 n.0 low))
turned_of graph n t v (inr e) apart =
    let low : (ends_of graph t.seg).0.0 ≡ t.to.0 = ap (λ (p : NodeId × NodeId). p.0.0) e in
    inr (low, ap (λ (p : NodeId × NodeId). p.1.0) e, ap (λ b. cond b v (reversed_walk v)) (ne_eqb (ends_of graph t.seg).0.0 n.0 (λ same. apart (sym same ∙ low))))

module _ (graph : GraphParts) (s : SegId) (n m : ℕ) (v x : PlainWalk) where
  pub turned_from : IsTurned graph s n m v x → IsEndOf graph s n
  turned_from (inl h) = inl h.0
  turned_from (inr h) = inr h.1

  pub turned_to : IsTurned graph s n m v x → IsEndOf graph s m
  turned_to (inl h) = inr h.1
  turned_to (inr h) = inl h.0

  pub turned_ends : IsTurned graph s n m v x → (q : ℕ) → IsEndOf graph s q → (q ≡ n) ⊎ (q ≡ m)
  turned_ends (inl h) q (inl e) = inl (sym e ∙ h.0)
  turned_ends (inl h) q (inr e) = inr (sym e ∙ h.1)
  turned_ends (inr h) q (inl e) = inr (sym e ∙ h.0)
  turned_ends (inr h) q (inr e) = inl (sym e ∙ h.1)

  pub turned_in : IsTurned graph s n m v x → (d : GridPoint) → In d (doubled_of x) → In d (doubled_of v)
  turned_in (inl h) d i = subst (λ (y : PlainWalk). In d (doubled_of y)) h.2 i
  turned_in (inr h) d i = back_doubled v d (subst (λ (y : PlainWalk). In d (doubled_of y)) h.2 i)

  -- the ports at both ends
  pub port_from : IsTurned graph s n m v x → (n ≡ m → ⊥) → port_by (ends_of graph s) n (Some x) ≡ start_port v
  port_from (inl h) apart = ap (λ b. cond b (start_port x) (end_port x)) (eq-eqb (ends_of graph s).0.0 n h.0) ∙ ap start_port h.2
  port_from (inr h) apart = ap (λ b. cond b (start_port x) (end_port x)) (ne_eqb (ends_of graph s).0.0 n (λ e. apart (sym e ∙ h.0))) ∙ ap end_port h.2 ∙ back_end_port v

  pub port_to : IsTurned graph s n m v x → (n ≡ m → ⊥) → port_by (ends_of graph s) m (Some x) ≡ end_port v
  port_to (inl h) apart = ap (λ b. cond b (start_port x) (end_port x)) (ne_eqb (ends_of graph s).0.0 m (λ e. apart (sym h.0 ∙ e))) ∙ ap end_port h.2
  port_to (inr h) apart = ap (λ b. cond b (start_port x) (end_port x)) (eq-eqb (ends_of graph s).0.0 m h.0) ∙ ap start_port h.2 ∙ back_start_port v

-- the port of a segment that gets a walk, beside the others
pub port_with : (graph : GraphParts) (k : Sketch) (s : SegId) (x : PlainWalk) (n : ℕ) (d : Dir) → length k.walks ≡ length graph.ends → s.0 < length graph.ends → port_by (ends_of graph s) n (Some x) ≡ Some d → (t : SegId)
    → port_at_node graph (board_under (with_walk_of k s (Some x))) n t ≡ with_port s d (port_at_node graph (board_under k) n) t
port_with graph k s x n d each below e t = elim (cases_eq s.0 t.0) [
  | inl i ↦ subst (λ (u : SegId). port_at_node graph (board_under (with_walk_of k s (Some x))) n u ≡ with_port s d (port_at_node graph (board_under k) n) u) (same_seg s t i)
      (ap (port_by (ends_of graph s) n) (walk_new graph k s (Some x) each below) ∙ e ∙ sym (ap (λ b. cond b (Some d) (port_at_node graph (board_under k) n s)) (eq-eqb s.0 s.0 refl)))
  | inr f ↦ ap (port_by (ends_of graph t) n) (walk_other k s t (Some x) (λ i. f (sym i))) ∙ sym (ap (λ b. cond b (Some d) (port_at_node graph (board_under k) n t)) (ne_eqb s.0 t.0 f))
]

pub clockwise_with : (graph : GraphParts) (k : Sketch) (s : SegId) (x : PlainWalk) (n : ℕ) (d : Dir) → length k.walks ≡ length graph.ends → s.0 < length graph.ends → port_by (ends_of graph s) n (Some x) ≡ Some d
    → are_clockwise (filter_map (with_port s d (port_at_node graph (board_under k) n)) (get_or graph.rounds n [])) ≡ true → AreClockwiseAt graph (with_walk_of k s (Some x)) n
clockwise_with graph k s x n d each below e before =
    ap are_clockwise
    (ports_agree (port_at_node graph (board_under (with_walk_of k s (Some x))) n) (with_port s d (port_at_node graph (board_under k) n)) (get_or graph.rounds n []) (λ t _. port_with graph k s x n d each below e t))
    ∙ before

-- a walk between two nodes that may be that of a segment between them
pub record IsBetween (graph : GraphParts) (k : Sketch) (s : SegId) (n m : ℕ) (v x : PlainWalk) : Type 0 where
  pub segment : s.0 < length graph.ends
  pub free : walk_in k s ≡ None
  pub from_stands : is_standing k n ≡ true
  pub to_stands : is_standing k m ≡ true
  pub start : v.start ≡ point_of_node k n
  pub end : end_point v ≡ point_of_node k m
  pub within : list_all (contains k.bounds) (points_of v) ≡ true
  pub once : are_distinct (doubled_of v) ≡ true
  pub apart : (t : SegId) (u : PlainWalk) (d : GridPoint) → walk_in k t ≡ Some u → In d (doubled_of v) → In d (doubled_of u) → IsMeeting graph k s t d
  pub clear : (q : ℕ) → is_standing k q ≡ true → In (doubled (point_of_node k q)) (doubled_of v) → (q ≡ n) ⊎ (q ≡ m)
  pub leaves : AreClockwiseAt graph (with_walk_of k s (Some x)) n
  pub arrives : AreClockwiseAt graph (with_walk_of k s (Some x)) m

pub addable_of : (graph : GraphParts) (k : Sketch) (s : SegId) (n m : ℕ) (v x : PlainWalk) → IsTurned graph s n m v x → IsBetween graph k s n m v x → IsAddable graph k s x
addable_of graph k s n m v x turned b = by_way turned
  where
    apart : (t : SegId) (u : PlainWalk) (d : GridPoint) → walk_in k t ≡ Some u → is_among (doubled_of x) d ≡ true → is_among (doubled_of u) d ≡ true → IsMeeting graph k s t d
    apart t u d e i j = b.apart t u d e (turned_in graph s n m v x turned d (among_at (doubled_of x) d i)) (among_at (doubled_of u) d j)

    is_end : (q : ℕ) → (q ≡ n) ⊎ (q ≡ m) → IsEndOf graph s q
    is_end q (inl e) = subst (IsEndOf graph s) (sym e) (turned_from graph s n m v x turned)
    is_end q (inr e) = subst (IsEndOf graph s) (sym e) (turned_to graph s n m v x turned)

    clear : (q : ℕ) → is_standing k q ≡ true → is_among (doubled_of x) (doubled (point_of_node k q)) ≡ true → IsEndOf graph s q
    clear q stands i = is_end q (b.clear q stands (turned_in graph s n m v x turned (doubled (point_of_node k q)) (among_at (doubled_of x) (doubled (point_of_node k q)) i)))

    by_way : IsTurned graph s n m v x → IsAddable graph k s x
    by_way (inl h) = record {
      segment = b.segment;
      free = b.free;
      low = ap (is_standing k) h.0 ∙ b.from_stands;
      up = ap (is_standing k) h.1 ∙ b.to_stands;
      start = ap (λ (y : PlainWalk). y.start) h.2 ∙ b.start ∙ ap (point_of_node k) (sym h.0);
      end = ap end_point h.2 ∙ b.end ∙ ap (point_of_node k) (sym h.1);
      within = ap (λ (y : PlainWalk). list_all (contains k.bounds) (points_of y)) h.2 ∙ b.within;
      once = ap (λ (y : PlainWalk). are_distinct (doubled_of y)) h.2 ∙ b.once;
      apart = apart;
      clear = clear;
      leaves = subst (AreClockwiseAt graph (with_walk_of k s (Some x))) (sym h.0) b.leaves;
      arrives = subst (AreClockwiseAt graph (with_walk_of k s (Some x))) (sym h.1) b.arrives;
    }
    by_way (inr h) = record {
      segment = b.segment;
      free = b.free;
      low = ap (is_standing k) h.0 ∙ b.to_stands;
      up = ap (is_standing k) h.1 ∙ b.from_stands;
      start = ap (λ (y : PlainWalk). y.start) h.2 ∙ b.end ∙ ap (point_of_node k) (sym h.0);
      end = ap end_point h.2 ∙ back_end v ∙ b.start ∙ ap (point_of_node k) (sym h.1);
      within = ap (λ (y : PlainWalk). list_all (contains k.bounds) (points_of y)) h.2 ∙ back_within (contains k.bounds) v b.within;
      once = ap (λ (y : PlainWalk). are_distinct (doubled_of y)) h.2 ∙ back_once v b.once;
      apart = apart;
      clear = clear;
      leaves = subst (AreClockwiseAt graph (with_walk_of k s (Some x))) (sym h.0) b.arrives;
      arrives = subst (AreClockwiseAt graph (with_walk_of k s (Some x))) (sym h.1) b.leaves;
    }
