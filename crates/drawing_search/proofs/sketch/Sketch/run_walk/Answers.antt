use Rattle.std.proofs.Common.{◌≡◌, refl, ◌∙◌, sym, ap, ap₂, subst, ◌<◌, false, length, Option, inl, inr, arith, ℕ, ◌≢◌, true, not, None, ◌⊎◌}
use Rattle.drawing_search.proofs.Common.{board_of, board_under, end_at, end_of, first_seg_of, if_within, is_standing}
use Rattle.drawing_search.proofs.Common.{last_seg_of, node_shown, point_of_node, ports_for, route, run_walk}
use Rattle.drawing_search.proofs.Common.{settled_there, BoardParts, Chain, GraphParts, GridPoint, IfOk, IsLegalSketch}
use Rattle.drawing_search.proofs.Common.{IsRun, NodeId, PlainWalk, SegId, Sketch}
use Rattle.drawing_search.proofs.RunReads.{reads_end, reads_first, reads_last, run_from, run_to}
use Rattle.walk_search.specs.declared.ends.End.{End}
use Rattle.segment_router.proofs.RouteLemmas.{no_route_from, no_route_to}
use Rattle.drawing_search.proofs.sketch.Sketch.run_walk.Goals as goal

abbrev asked : GridPoint → ℕ → End
asked p ports = record { at = p; is_free = false; ports = ports }

module _ (graph : GraphParts) (k : Sketch) (h : IsLegalSketch graph k) where
  end_asked : (s : SegId) (n : ℕ) (p : GridPoint) (ports : ℕ) → is_standing k n ≡ true → p ≡ point_of_node k n → ports ≡ ports_for graph k n s → asked p ports ≡ end_at graph (board_under k) s n
  end_asked s n p ports stands at allowed =
      ap₂ (λ (q : GridPoint) (m : ℕ). asked q m) at allowed
      ∙ ap (λ b. (let e : End = record { at = point_of_node k n; is_free = not b; ports = ports_for graph k n s } in e)) (sym (settled_there graph k h n stands))

  module _ (c : Chain) (from : is_standing k c.from.0 ≡ true) (to : is_standing k (end_of c).0 ≡ true) (p q : GridPoint) (from_ports to_ports : ℕ) (at_from : p ≡ point_of_node k c.from.0) (at_to : q ≡ point_of_node k (end_of c).0)
      (by_from : from_ports ≡ ports_for graph k c.from.0 (first_seg_of c.steps)) (by_to : to_ports ≡ ports_for graph k (end_of c).0 (last_seg_of c)) where
    pub walk_asked : (most : ℕ) → if_within most (route (board_of k) (record { at = p; is_free = false; ports = from_ports }) (record { at = q; is_free = false; ports = to_ports })) ≡ if_within most (run_walk graph (board_under k) c)
    walk_asked most =
        ap₂ (λ (a b : End). if_within most (route (board_of k) a b)) (end_asked (first_seg_of c.steps) c.from.0 p from_ports from at_from by_from) (end_asked (last_seg_of c) (end_of c).0 q to_ports to at_to by_to)

    -- there is none where an end has no allowed port
    pub none_asked : (most : ℕ) → (from_ports ≡ 0) ⊎ (to_ports ≡ 0) → None ≡ if_within most (run_walk graph (board_under k) c)
    none_asked most (inl e) = sym (ap (if_within most) (no_route_from (board_of k) (end_at graph (board_under k) (first_seg_of c.steps) c.from.0) (end_at graph (board_under k) (last_seg_of c) (end_of c).0) (sym by_from ∙ e)))
    none_asked most (inr e) = sym (ap (if_within most) (no_route_to (board_of k) (end_at graph (board_under k) (first_seg_of c.steps) c.from.0) (end_at graph (board_under k) (last_seg_of c) (end_of c).0) (sym by_to ∙ e)))

  pub points_apart : (c : Chain) → IsRun graph c → (p q : GridPoint) → is_standing k c.from.0 ≡ true → is_standing k (end_of c).0 ≡ true → p ≡ point_of_node k c.from.0 → q ≡ point_of_node k (end_of c).0 → p ≢ q
  points_apart c run p q from to at_from at_to = λ e. run.apart (h.own c.from.0 (end_of c).0 from to (sym at_from ∙ e ∙ at_to))

pub ports_for-requires-clause-node : goal.ports_for-requires-clause-node
ports_for-requires-clause-node c = run_from c.args.graph.now c.requires.graph c.args.run.now c.requires.run

pub ports_for-requires-2-clause-node : goal.ports_for-requires-2-clause-node
ports_for-requires-2-clause-node c =
    let graph = c.args.graph.now in
    subst (λ (n : NodeId). n.0 < length graph.kinds) (sym (reads_end graph c.requires.graph c.args.run.now c.requires.run c.as_slice-steps.result.now c.as_slice-steps.ensures)) (run_to graph c.requires.graph c.args.run.now c.requires.run)

pub point-from-requires : goal.point-from-requires
point-from-requires c = omega (arith, run_from c.args.graph.now c.requires.graph c.args.run.now c.requires.run, c.requires.legal.points_each)

pub point-to-requires : goal.point-to-requires
point-to-requires c =
    let graph = c.args.graph.now in
    let same = reads_end graph c.requires.graph c.args.run.now c.requires.run c.as_slice-steps.result.now c.as_slice-steps.ensures in
    omega (arith, run_to graph c.requires.graph c.args.run.now c.requires.run, c.requires.legal.points_each, ap (λ (n : NodeId). n.0) same)

pub least_walk_within-requires-clause-from : goal.least_walk_within-requires-clause-from
least_walk_within-requires-clause-from c =
    let k = c.args.self.now in
    ap (λ (b : BoardParts). b.is_node c.point-from.result) (c.self.invariant ∙ ap board_of c.self.view_is)
    ∙ ap (board_of k).is_node c.point-from.ensures
    ∙ node_shown c.args.graph.now k c.requires.legal c.args.run.now.from.0 c.requires.from

pub least_walk_within-requires-clause-to : goal.least_walk_within-requires-clause-to
least_walk_within-requires-clause-to c =
    let k = c.args.self.now in
    let graph = c.args.graph.now in
    let same = reads_end graph c.requires.graph c.args.run.now c.requires.run c.as_slice-steps.result.now c.as_slice-steps.ensures in
    ap (λ (b : BoardParts). b.is_node c.point-to.result) (c.self.invariant ∙ ap board_of c.self.view_is)
    ∙ ap (board_of k).is_node (c.point-to.ensures ∙ ap (λ (n : NodeId). point_of_node k n.0) same)
    ∙ node_shown graph k c.requires.legal (end_of c.args.run.now).0 c.requires.to

pub least_walk_within-requires-clause-apart : goal.least_walk_within-requires-clause-apart
least_walk_within-requires-clause-apart c =
    let k = c.args.self.now in
    let graph = c.args.graph.now in
    let same = reads_end graph c.requires.graph c.args.run.now c.requires.run c.as_slice-steps.result.now c.as_slice-steps.ensures in
    points_apart graph k c.requires.legal c.args.run.now c.requires.run c.point-from.result c.point-to.result c.requires.from c.requires.to c.point-from.ensures (c.point-to.ensures ∙ ap (λ (n : NodeId). point_of_node k n.0) same)

pub returns-then-from_ports-eq0 : goal.returns-then-from_ports-eq0
returns-then-from_ports-eq0 c =
    let k = c.args.self.now in
    let graph = c.args.graph.now in
    let run = c.args.run.now in
    let ts = c.as_slice-steps.result.now in
    let same = c.as_slice-steps.ensures in
    let first = reads_first graph c.requires.graph run c.requires.run ts same in
    let last = reads_last graph c.requires.graph run c.requires.run ts same in
    let end = reads_end graph c.requires.graph run c.requires.run ts same in
    none_asked graph k c.requires.legal run c.requires.from c.requires.to (point_of_node k run.from.0) (point_of_node k (end_of run).0) c.in_ok-from_ports.from_ports c.in_ok-to_ports.to_ports refl refl
    (c.in_ok-from_ports.ensures ∙ ap (ports_for graph k run.from.0) first) (c.in_ok-to_ports.ensures ∙ ap₂ (λ (n : NodeId) (s : SegId). ports_for graph k n.0 s) end last) c.args.most (elim c.then-from_ports-eq0.either [ inl e ↦ inl e | inr e ↦ inr e.1 ])

pub returns : goal.returns
returns c =
    let k = c.args.self.now in
    let graph = c.args.graph.now in
    let run = c.args.run.now in
    let ts = c.as_slice-steps.result.now in
    let same = c.as_slice-steps.ensures in
    let first = reads_first graph c.requires.graph run c.requires.run ts same in
    let last = reads_last graph c.requires.graph run c.requires.run ts same in
    let end = reads_end graph c.requires.graph run c.requires.run ts same in
    subst (λ (v : Option PlainWalk). IfOk c.least_walk_within.result (λ walk. walk ≡ v))
    (ap
    (λ (b : BoardParts). if_within c.args.most (route b (record { at = c.point-from.result; is_free = false; ports = c.in_ok-from_ports.from_ports }) (record { at = c.point-to.result; is_free = false; ports = c.in_ok-to_ports.to_ports })))
    (c.self.invariant ∙ ap board_of c.self.view_is)
    ∙ walk_asked graph k c.requires.legal run c.requires.from c.requires.to c.point-from.result c.point-to.result c.in_ok-from_ports.from_ports c.in_ok-to_ports.to_ports c.point-from.ensures (c.point-to.ensures ∙ ap (λ (n : NodeId). point_of_node k n.0) end)
    (c.in_ok-from_ports.ensures ∙ ap (ports_for graph k run.from.0) first) (c.in_ok-to_ports.ensures ∙ ap₂ (λ (n : NodeId) (s : SegId). ports_for graph k n.0 s) end last) c.args.most)
    c.least_walk_within.ensures
