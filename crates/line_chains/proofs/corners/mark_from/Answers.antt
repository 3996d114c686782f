use Rattle.std.proofs.Common.{◌≡◌, ℕ, ◌∙◌, ◌<◌, List, [], get_or, length, ap, subst, sym, arith}
use Rattle.std.proofs.lemmas.Option.{get_or_from_slice_get}
use Rattle.map_base.specs.declared.ids.NodeId.{NodeId}
use Rattle.map_base.specs.declared.ids.SegId.{SegId}
use Rattle.line_chains.specs.declared.chain.Chain.{Chain}
use Rattle.line_chains.specs.Chains.{nodes_along, round_of, way_from}
use Rattle.line_chains.specs.Marks.{marked_from}
use Rattle.line_chains.proofs.Below.{way_below}
use Rattle.line_chains.proofs.Flags.{length-marked, marks_more}
use Rattle.line_chains.proofs.Rounds.{round_below}
use Rattle.line_chains.proofs.corners.mark_from.Goals as goal

pub way_from-requires-clause-segment : goal.way_from-requires-clause-segment
way_from-requires-clause-segment c =
    let g = c.args.graph.now in
    let none : SegId = record { 0 = 0 } in
    let i = c.loop-s.s-index in
    let items = c.round-s-items.result.now in
    let round : items ≡ round_of g c.args.n = sym (get_or_from_slice_get g.rounds c.args.n.0 items [] c.round-s-items.ensures) in
    subst (λ (v : List SegId). (get_or v i none).0 < length g.ends) (sym round) (round_below g c.requires.graph c.args.n.0 c.requires.node i none (omega (arith, c.loop-s-test.true, ap length round)))

pub mark_over-requires : goal.mark_over-requires
mark_over-requires c =
    let g = c.args.graph.now in
    let none : SegId = record { 0 = 0 } in
    let i = c.loop-s.s-index in
    let items = c.round-s-items.result.now in
    let round : items ≡ round_of g c.args.n = sym (get_or_from_slice_get g.rounds c.args.n.0 items [] c.round-s-items.ensures) in
    let below : (get_or items i none).0 < length g.ends =
    subst (λ (v : List SegId). (get_or v i none).0 < length g.ends) (sym round) (round_below g c.requires.graph c.args.n.0 c.requires.node i none (omega (arith, c.loop-s-test.true, ap length round))) in
    subst (λ (w : Chain). (k : ℕ) (d : NodeId) → k < length (nodes_along w) → (get_or (nodes_along w) k d).0 < length c.loop-s.reached) (sym c.in_ok-way.ensures)
    (subst (λ m. (k : ℕ) (d : NodeId) → k < length (nodes_along (way_from g c.args.corners.now c.args.n (get_or items i none))) → (get_or (nodes_along (way_from g c.args.corners.now c.args.n (get_or items i none))) k d).0 < m) (sym c.loop-s.invariant.each)
    (way_below g c.requires.graph c.args.corners.now c.args.n (get_or items i none) c.requires.node below))

pub loop-s-preserved : goal.loop-s-preserved
loop-s-preserved c =
    let g = c.args.graph.now in
    let none : SegId = record { 0 = 0 } in record {
      flags =
          marks_more g c.args.corners.now c.args.n c.round-s-items.result.now c.loop-s.s-index none c.in_ok-way.way c.loop-s.reached c.mark_over.new.reached (marked_from g c.args.corners.now c.args.n c.args.reached.now)
          c.loop-s-test.true c.in_ok-way.ensures c.mark_over.ensures c.loop-s.invariant.flags;
      each = ap length c.mark_over.ensures ∙ length-marked (nodes_along c.in_ok-way.way) c.loop-s.reached ∙ c.loop-s.invariant.each;
    }
