-- A run is laid piece by piece: each segment gets a part of a free walk, and what is left of that is a free walk beside it.
use Rattle.std.proofs.Common.{◌≡◌, refl, sym, ◌∙◌, ap, ap₂, subst, ℕ, ◌<◌, Bool, true, false, cond, eqb, List, [], length, get_or, set, Option, Some, None, option_map, ◌⊎◌, inl, inr}
use Rattle.std.proofs.lemmas.Bool.{eq-eqb, ne_eqb, true≢false}
use Rattle.std.proofs.lemmas.List.{set-get_or}
use Rattle.std.specs.List.{cons_option, filter_map, list_all}
use Rattle.map_base.specs.declared.ids.NodeId.{NodeId}
use Rattle.map_base.specs.declared.ids.SegId.{SegId}
use Rattle.graph_core.specs.declared.parts.GraphParts.{GraphParts}
use Rattle.graph_core.specs.Consistent.{IsConsistent}
use Rattle.line_chains.specs.declared.chain.ChainStep.{ChainStep}
use Rattle.line_chains.specs.Chains.{ends_of, round_of}
use Rattle.octi_grid.specs.declared.dir.Dir.{Dir}
use Rattle.octi_grid.specs.declared.point.GridPoint.{GridPoint}
use Rattle.octi_grid.specs.Ways.{doubled, reverse_of}
use Rattle.octi_grid.specs.Walks.{doubled_of, end_point, end_port, points_of, start_port, PlainWalk}
use Rattle.octi_grid.specs.Legal.{are_clockwise, are_distinct, is_even}
use Rattle.octi_grid.proofs.Members.{not_among, In}
use Rattle.grid_board.specs.Boards.{contains}
use Rattle.segment_router.specs.Ports.{with_port}
use Rattle.segment_router.specs.Routes.{port_at_node, port_by}
use Rattle.segment_router.proofs.LaidLemmas.{end_on_way, start_on_way}
use Rattle.segment_router.proofs.LaidPorts.{ports_agree}
use Rattle.segment_router.proofs.MaskLemmas.{ends_round}
use Rattle.segment_router.proofs.Places.{same_seg}
use Rattle.segment_router.proofs.SettledLemmas.{nowhere}
use Rattle.run_laying.specs.Laying.{board_under, from_low, with_piece, Sketch}
use Rattle.run_laying.specs.Runs.{LeadsTo, MeetAlone}
use Rattle.run_laying.specs.Sketches.{is_standing, point_of_node, stood, walk_in, with_walk_of, IsEndOf, IsLegalSketch, IsMeeting}
use Rattle.run_laying.proofs.Added.{added_legal, which_walk, walk_other}
use Rattle.run_laying.proofs.Cuts.{end_once, first_once, first_start_port, first_within, in_first, in_second, met_between, next_holds, no_turn_back, second_end_port, second_once, second_within, some_end, some_first, split_end, start_once, two_clockwise, IsSplit}
use Rattle.run_laying.proofs.Shown.{stands_below}
use Rattle.run_laying.proofs.Standing.{point_new, stands_new, still_stands, still_there, stood_legal, which_stands, IsOpen}
use Rattle.run_laying.proofs.Turned.{addable_of, clockwise_with, port_from, port_to, port_with, turned_ends, turned_from, turned_in, turned_of, turned_to, IsBetween, IsTurned}

-- a walk that stands meets a doubled point at one of two nodes, where it ends
abbrev pub MeetsAt : GraphParts → Sketch → SegId → GridPoint → ℕ → ℕ → Type 0
MeetsAt graph k t d n e = ((doubled (point_of_node k n) ≡ d) × IsEndOf graph t n) ⊎ ((doubled (point_of_node k e) ≡ d) × IsEndOf graph t e)

-- a walk that is free between two nodes that stand: from the one by a segment, to the other by a segment
pub record IsFreeWalk (graph : GraphParts) (k : Sketch) (n e : ℕ) (s l : SegId) (w : PlainWalk) : Type 0 where
  pub from_stands : is_standing k n ≡ true
  pub to_stands : is_standing k e ≡ true
  pub differ : n ≡ e → ⊥
  pub start : w.start ≡ point_of_node k n
  pub end : end_point w ≡ point_of_node k e
  pub within : list_all (contains k.bounds) (points_of w) ≡ true
  pub once : are_distinct (doubled_of w) ≡ true
  pub apart : (t : SegId) (v : PlainWalk) (d : GridPoint) → walk_in k t ≡ Some v → In d (doubled_of w) → In d (doubled_of v) → MeetsAt graph k t d n e
  pub clear : (m : ℕ) → is_standing k m ≡ true → In (doubled (point_of_node k m)) (doubled_of w) → (m ≡ n) ⊎ (m ≡ e)
  pub leaves : (d : Dir) → start_port w ≡ Some d → are_clockwise (filter_map (with_port s d (port_at_node graph (board_under k) n)) (get_or graph.rounds n [])) ≡ true
  pub arrives : (d : Dir) → end_port w ≡ Some d → are_clockwise (filter_map (with_port l d (port_at_node graph (board_under k) e)) (get_or graph.rounds e [])) ≡ true

-- ---- the last piece

module _ (graph : GraphParts) (fit : IsConsistent graph) (k : Sketch) (h : IsLegalSketch graph k) (n : NodeId) (t : ChainStep) (w : PlainWalk) (f : IsFreeWalk graph k n.0 t.to.0 t.seg t.seg w)
    (some : 0 < length w.steps) (segment : t.seg.0 < length graph.ends) (leads : LeadsTo graph n t) (none : walk_in k t.seg ≡ None) where
  last_turned : IsTurned graph t.seg n.0 t.to.0 w (from_low graph t.seg n w)
  last_turned = turned_of graph n t w leads f.differ

  last_between : IsBetween graph k t.seg n.0 t.to.0 w (from_low graph t.seg n w)
  last_between = record {
    segment = segment;
    free = none;
    from_stands = f.from_stands;
    to_stands = f.to_stands;
    start = f.start;
    end = f.end;
    within = f.within;
    once = f.once;
    apart = λ u v d e i j. meeting u d (f.apart u v d e i j);
    clear = f.clear;
    leaves =
        let port = some_first w.steps some in
        clockwise_with graph k t.seg (from_low graph t.seg n w) n.0 port.0 h.walks_each segment (port_from graph t.seg n.0 t.to.0 w (from_low graph t.seg n w) last_turned f.differ ∙ port.1) (f.leaves port.0 port.1);
    arrives =
        let port = end_dir in
        clockwise_with graph k t.seg (from_low graph t.seg n w) t.to.0 port.0 h.walks_each segment (port_to graph t.seg n.0 t.to.0 w (from_low graph t.seg n w) last_turned f.differ ∙ port.1) (f.arrives port.0 port.1);
  }
    where
      end_dir : (d : Dir) × (end_port w ≡ Some d)
      end_dir = let last = some_end w.steps some in (reverse_of last.0, ap (option_map reverse_of) last.1)

      meeting : (u : SegId) (d : GridPoint) → MeetsAt graph k u d n.0 t.to.0 → IsMeeting graph k t.seg u d
      meeting u d (inl m) = record { node = n.0; of_one = turned_from graph t.seg n.0 t.to.0 w (from_low graph t.seg n w) last_turned; of_other = m.1; there = m.0 }
      meeting u d (inr m) = record { node = t.to.0; of_one = turned_to graph t.seg n.0 t.to.0 w (from_low graph t.seg n w) last_turned; of_other = m.1; there = m.0 }

  stays : stood k t.to (end_point w) ≡ k
  stays = ap₂ (λ (ps : List GridPoint) (fs : List Bool). (let j : Sketch = record { bounds = k.bounds; points = ps; stand = fs; walks = k.walks } in j)) points flags
    where
      points : set k.points t.to.0 (end_point w) ≡ k.points
      points = ap (set k.points t.to.0) f.end ∙ set-get_or k.points t.to.0 nowhere

      flags : set k.stand t.to.0 true ≡ k.stand
      flags = ap (set k.stand t.to.0) (sym f.to_stands) ∙ set-get_or k.stand t.to.0 false

  pub last_legal : IsLegalSketch graph (with_piece graph n t w k)
  last_legal =
      subst (λ (j : Sketch). IsLegalSketch graph (with_walk_of j t.seg (Some (from_low graph t.seg n w)))) (sym stays)
      (added_legal graph fit k t.seg (from_low graph t.seg n w) h (addable_of graph k t.seg n.0 t.to.0 w (from_low graph t.seg n w) last_turned last_between))

-- ---- a piece before others

module _ (graph : GraphParts) (fit : IsConsistent graph) (k : Sketch) (h : IsLegalSketch graph k) (n : NodeId) (t : ChainStep) (u l : SegId) (e : ℕ) (w v rest : PlainWalk) (f : IsFreeWalk graph k n.0 e t.seg l w)
    (split : IsSplit w v rest) (segment : t.seg.0 < length graph.ends) (leads : LeadsTo graph n t) (none : walk_in k t.seg ≡ None) (node : t.to.0 < length graph.kinds) (lifted : is_standing k t.to.0 ≡ false)
    (alone : MeetAlone graph t.seg t.to u) (none_next : walk_in k u ≡ None) (next : u.0 ≡ t.seg.0 → ⊥) where
  abbrev p : GridPoint
  p = end_point v

  abbrev x : PlainWalk
  x = from_low graph t.seg n v

  abbrev k1 : Sketch
  k1 = stood k t.to p

  abbrev k2 : Sketch
  k2 = with_piece graph n t v k

  -- the two ends of the whole walk are not where it is split
  not_from : In (doubled (point_of_node k n.0)) (doubled_of rest) → ⊥
  not_from m = start_once w v rest split f.once (subst (λ (q : GridPoint). In (doubled q) (doubled_of rest)) (sym f.start) m)

  not_to : In (doubled (point_of_node k e)) (doubled_of v) → ⊥
  not_to m = end_once w v rest split f.once (subst (λ (q : GridPoint). In (doubled q) (doubled_of v)) (sym f.end) m)

  p_in_first : In (doubled p) (doubled_of v)
  p_in_first = end_on_way v.start v.steps

  p_in_second : In (doubled p) (doubled_of rest)
  p_in_second = subst (λ (q : GridPoint). In (doubled q) (doubled_of rest)) split.next (start_on_way rest.start rest.steps)

  neither : (d : GridPoint) → d ≡ doubled p → ((doubled (point_of_node k n.0) ≡ d) ⊎ (doubled (point_of_node k e) ≡ d)) → ⊥
  neither d is (inl i) = not_from (subst (λ (q : GridPoint). In q (doubled_of rest)) (sym (i ∙ is)) p_in_second)
  neither d is (inr i) = not_to (subst (λ (q : GridPoint). In q (doubled_of v)) (sym (i ∙ is)) p_in_first)

  open_at : IsOpen graph k t.to p
  open_at = record {
    node = node;
    lifted = lifted;
    inside = ap (contains k.bounds) (sym split.next) ∙ next_holds w v rest split (contains k.bounds) f.within;
    even = ap is_even (sym split.next) ∙ split.even;
    away = away;
    off = λ s y i. not_among (doubled_of y) (doubled p) (λ m. off s y i m (f.apart s y (doubled p) i (in_first w v rest split (doubled p) p_in_first) m));
  }
    where
      off : (s : SegId) (y : PlainWalk) → walk_in k s ≡ Some y → In (doubled p) (doubled_of y) → MeetsAt graph k s (doubled p) n.0 e → ⊥
      off s y i m (inl at) = neither (doubled p) refl (inl at.0)
      off s y i m (inr at) = neither (doubled p) refl (inr at.0)

      away : (m : ℕ) → is_standing k m ≡ true → point_of_node k m ≡ p → ⊥
      away m stands same = elim (f.clear m stands (subst (λ (q : GridPoint). In (doubled q) (doubled_of w)) (sym same) (in_first w v rest split (doubled p) p_in_first))) [
        | inl i ↦ neither (doubled p) refl (inl (ap doubled (ap (point_of_node k) (sym i) ∙ same)))
        | inr i ↦ neither (doubled p) refl (inr (ap doubled (ap (point_of_node k) (sym i) ∙ same)))
      ]

  h1 : IsLegalSketch graph k1
  h1 = stood_legal graph k t.to p h open_at

  apart_nodes : n.0 ≡ t.to.0 → ⊥
  apart_nodes i = true≢false (sym f.from_stands ∙ ap (is_standing k) i ∙ lifted)

  turned : IsTurned graph t.seg n.0 t.to.0 v x
  turned = turned_of graph n t v leads apart_nodes

  from_there : point_of_node k1 n.0 ≡ point_of_node k n.0
  from_there = still_there graph k t.to p h open_at n.0 f.from_stands

  to_there : point_of_node k1 e ≡ point_of_node k e
  to_there = still_there graph k t.to p h open_at e f.to_stands

  new_there : point_of_node k1 t.to.0 ≡ p
  new_there = point_new graph k t.to p h node

  -- the ports of the piece
  first_dir : (d : Dir) × (start_port v ≡ Some d)
  first_dir = some_first v.steps split.some

  last_dir : (d : Dir) × (end_port v ≡ Some d)
  last_dir = let last = some_end v.steps split.some in (reverse_of last.0, ap (option_map reverse_of) last.1)

  port_there : port_by (ends_of graph t.seg) t.to.0 (Some x) ≡ Some last_dir.0
  port_there = port_to graph t.seg n.0 t.to.0 v x turned apart_nodes ∙ last_dir.1

  -- round the new node the two segments stand alone
  lone_port : (g : SegId → Option Dir) (a : Dir) → g t.seg ≡ Some a → g u ≡ None → are_clockwise (filter_map g (round_of graph t.to)) ≡ true
  lone_port g a one other = by_round alone
    where
      by_round : MeetAlone graph t.seg t.to u → are_clockwise (filter_map g (round_of graph t.to)) ≡ true
      by_round (inl r) = ap (λ (round : List SegId). are_clockwise (filter_map g round)) r ∙ ap₂ (λ (o q : Option Dir). are_clockwise (cons_option o (cons_option q []))) one other
      by_round (inr r) = ap (λ (round : List SegId). are_clockwise (filter_map g round)) r ∙ ap₂ (λ (o q : Option Dir). are_clockwise (cons_option o (cons_option q []))) other one

  two_ports : (g : SegId → Option Dir) (a b : Dir) → g t.seg ≡ Some a → g u ≡ Some b → (a ≡ b → ⊥) → are_clockwise (filter_map g (round_of graph t.to)) ≡ true
  two_ports g a b one other differ = by_round alone
    where
      by_round : MeetAlone graph t.seg t.to u → are_clockwise (filter_map g (round_of graph t.to)) ≡ true
      by_round (inl r) =
          ap (λ (round : List SegId). are_clockwise (filter_map g round)) r ∙ ap₂ (λ (o q : Option Dir). are_clockwise (cons_option o (cons_option q []))) one other ∙ two_clockwise a b differ
      by_round (inr r) =
          ap (λ (round : List SegId). are_clockwise (filter_map g round)) r ∙ ap₂ (λ (o q : Option Dir). are_clockwise (cons_option o (cons_option q []))) other one
          ∙ two_clockwise b a (λ i. differ (sym i))

  piece_between : IsBetween graph k1 t.seg n.0 t.to.0 v x
  piece_between = record {
    segment = segment;
    free = none;
    from_stands = still_stands graph k t.to p h open_at n.0 f.from_stands;
    to_stands = stands_new graph k t.to p h node;
    start = split.start ∙ f.start ∙ sym from_there;
    end = sym new_there;
    within = first_within w v rest split (contains k.bounds) f.within;
    once = first_once w v rest split f.once;
    apart = λ s y d i m o. met s d m (f.apart s y d i (in_first w v rest split d m) o);
    clear = λ q stands m. cleared q m (which_stands graph k t.to p h open_at q stands);
    leaves =
        clockwise_with graph k1 t.seg x n.0 first_dir.0 h1.walks_each segment (port_from graph t.seg n.0 t.to.0 v x turned apart_nodes ∙ first_dir.1)
        (f.leaves first_dir.0 (sym (first_start_port w v rest split) ∙ first_dir.1));
    arrives =
        lone_port (port_at_node graph (board_under k2) t.to.0) last_dir.0
        (port_with graph k1 t.seg x t.to.0 last_dir.0 h1.walks_each segment port_there t.seg ∙ ap (λ b. cond b (Some last_dir.0) (port_at_node graph (board_under k1) t.to.0 t.seg)) (eq-eqb t.seg.0 t.seg.0 refl))
        (ap (port_by (ends_of graph u) t.to.0) (walk_other k1 t.seg u (Some x) next ∙ none_next));
  }
    where
      met : (s : SegId) (d : GridPoint) → In d (doubled_of v) → MeetsAt graph k s d n.0 e → IsMeeting graph k1 t.seg s d
      met s d m (inl at) = record { node = n.0; of_one = turned_from graph t.seg n.0 t.to.0 v x turned; of_other = at.1; there = ap doubled from_there ∙ at.0 }
      met s d m (inr at) = absurd (not_to (subst (λ (q : GridPoint). In q (doubled_of v)) (sym at.0) m))

      cleared : (q : ℕ) → In (doubled (point_of_node k1 q)) (doubled_of v) → (q ≡ t.to.0) ⊎ (is_standing k q ≡ true) → (q ≡ n.0) ⊎ (q ≡ t.to.0)
      cleared q m (inl i) = inr i
      cleared q m (inr before) = which (f.clear q before (in_first w v rest split (doubled (point_of_node k q)) here)) here
        where
          here : In (doubled (point_of_node k q)) (doubled_of v)
          here = subst (λ (r : GridPoint). In (doubled r) (doubled_of v)) (still_there graph k t.to p h open_at q before) m

          which : (q ≡ n.0) ⊎ (q ≡ e) → In (doubled (point_of_node k q)) (doubled_of v) → (q ≡ n.0) ⊎ (q ≡ t.to.0)
          which (inl i) o = inl i
          which (inr i) o = absurd (not_to (subst (λ j. In (doubled (point_of_node k j)) (doubled_of v)) i o))

  pub piece_legal : IsLegalSketch graph (with_piece graph n t v k)
  piece_legal = added_legal graph fit k1 t.seg x h1 (addable_of graph k1 t.seg n.0 t.to.0 v x turned piece_between)

  -- what is left of the walk is free beside it
  pub rest_free : IsFreeWalk graph (with_piece graph n t v k) t.to.0 e u l rest
  rest_free = record {
    from_stands = stands_new graph k t.to p h node;
    to_stands = still_stands graph k t.to p h open_at e f.to_stands;
    differ = λ i. true≢false (sym f.to_stands ∙ ap (is_standing k) (sym i) ∙ lifted);
    start = split.next ∙ sym new_there;
    end = sym (split_end w v rest split) ∙ f.end ∙ sym to_there;
    within = second_within w v rest split (contains k.bounds) f.within;
    once = second_once w v rest split f.once;
    apart = λ s y d i m o. met s y d m o (which_walk graph fit k1 t.seg x h1 (addable_of graph k1 t.seg n.0 t.to.0 v x turned piece_between) s y i);
    clear = λ q stands m. cleared q m (which_stands graph k t.to p h open_at q stands);
    leaves = λ d is. at_new d is;
    arrives = λ d is. at_end d is;
  }
    where
      old_met : (s : SegId) (d : GridPoint) → In d (doubled_of rest) → MeetsAt graph k s d n.0 e → MeetsAt graph k2 s d t.to.0 e
      old_met s d m (inl at) = absurd (not_from (subst (λ (q : GridPoint). In q (doubled_of rest)) (sym at.0) m))
      old_met s d m (inr at) = inr (ap doubled to_there ∙ at.0, at.1)

      met : (s : SegId) (y : PlainWalk) (d : GridPoint) → In d (doubled_of rest) → In d (doubled_of y) → ((s ≡ t.seg) × (x ≡ y)) ⊎ ((s.0 ≡ t.seg.0 → ⊥) × (walk_in k1 s ≡ Some y)) → MeetsAt graph k2 s d t.to.0 e
      met s y d m o (inl i) =
          let in_v : In d (doubled_of v) = turned_in graph t.seg n.0 t.to.0 v x turned d (subst (λ (z : PlainWalk). In d (doubled_of z)) (sym i.1) o) in
          let at : d ≡ doubled rest.start = met_between w v rest split f.once d in_v m in
          inl (ap doubled (new_there ∙ sym split.next) ∙ sym at, subst (λ (q : SegId). IsEndOf graph q t.to.0) (sym i.0) (turned_to graph t.seg n.0 t.to.0 v x turned))
      met s y d m o (inr i) = old_met s d m (f.apart s y d i.1 (in_second w v rest split d m) o)

      cleared : (q : ℕ) → In (doubled (point_of_node k1 q)) (doubled_of rest) → (q ≡ t.to.0) ⊎ (is_standing k q ≡ true) → (q ≡ t.to.0) ⊎ (q ≡ e)
      cleared q m (inl i) = inl i
      cleared q m (inr before) = which (f.clear q before (in_second w v rest split (doubled (point_of_node k q)) here)) here
        where
          here : In (doubled (point_of_node k q)) (doubled_of rest)
          here = subst (λ (r : GridPoint). In (doubled r) (doubled_of rest)) (still_there graph k t.to p h open_at q before) m

          which : (q ≡ n.0) ⊎ (q ≡ e) → In (doubled (point_of_node k q)) (doubled_of rest) → (q ≡ t.to.0) ⊎ (q ≡ e)
          which (inl i) o = absurd (not_from (subst (λ j. In (doubled (point_of_node k j)) (doubled_of rest)) i o))
          which (inr i) o = inr i

      at_new : (d : Dir) → start_port rest ≡ Some d → are_clockwise (filter_map (with_port u d (port_at_node graph (board_under k2) t.to.0)) (get_or graph.rounds t.to.0 [])) ≡ true
      at_new d is =
          two_ports (with_port u d (port_at_node graph (board_under k2) t.to.0)) last_dir.0 d
          (ap (λ b. cond b (Some d) (port_at_node graph (board_under k2) t.to.0 t.seg)) (ne_eqb u.0 t.seg.0 next)
          ∙ port_with graph k1 t.seg x t.to.0 last_dir.0 h1.walks_each segment port_there t.seg ∙ ap (λ b. cond b (Some last_dir.0) (port_at_node graph (board_under k1) t.to.0 t.seg)) (eq-eqb t.seg.0 t.seg.0 refl))
          (ap (λ b. cond b (Some d) (port_at_node graph (board_under k2) t.to.0 u)) (eq-eqb u.0 u.0 refl))
          (λ same. no_turn_back w v rest split f.once last_dir.0 d last_dir.1 is same)

      end_beside : (s : SegId) → In s (get_or graph.rounds e []) → s.0 ≡ t.seg.0 → ⊥
      end_beside s m same =
          elim (turned_ends graph t.seg n.0 t.to.0 v x turned e (subst (λ (q : SegId). IsEndOf graph q e) (same_seg s t.seg same) (ends_round graph fit e (stands_below graph k h e f.to_stands) s m))) [
            | inl i ↦ f.differ (sym i)
            | inr i ↦ true≢false (sym f.to_stands ∙ ap (is_standing k) i ∙ lifted)
          ]

      at_end : (d : Dir) → end_port rest ≡ Some d → are_clockwise (filter_map (with_port l d (port_at_node graph (board_under k2) e)) (get_or graph.rounds e [])) ≡ true
      at_end d is =
          ap are_clockwise
          (ports_agree (with_port l d (port_at_node graph (board_under k2) e)) (with_port l d (port_at_node graph (board_under k) e)) (get_or graph.rounds e [])
          (λ s m. ap (λ (o : Option Dir). cond (eqb l.0 s.0) (Some d) o) (ap (port_by (ends_of graph s) e) (walk_other k1 t.seg s (Some x) (end_beside s m)))))
          ∙ f.arrives d (sym (second_end_port w v rest split) ∙ is)
