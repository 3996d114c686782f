use Rattle.std.proofs.Common.{◌≡◌, ◌∙◌, Bool, List, false, true, get_or, length, ap, sym, arith}
use Rattle.line_chains.specs.Chains.{is_reached}
use Rattle.line_chains.specs.Marks.{marked_from, reached_by}
use Rattle.line_chains.proofs.Rings.{flag_reached, length-reached, ring_kept, ring_made, ring_reached}
use Rattle.line_chains.proofs.corners.add_ring.Goals as goal

pub is_raised-requires : goal.is_raised-requires
is_raised-requires c = omega (arith, c.requires.node, ap length c.requires.reached, length-reached c.args.graph.now c.args.corners.now)

pub returns-then-is_raised-clause-corners : goal.returns-then-is_raised-clause-corners
returns-then-is_raised-clause-corners c =
    let g = c.args.graph.now in
    let cs = c.args.corners.now in
    let n = c.args.n in
    let over : is_reached g cs n ≡ true =
    sym (flag_reached g cs n false c.requires.node) ∙ ap (λ (fs : List Bool). get_or fs n.0 false) (sym c.requires.reached) ∙ sym c.is_raised.ensures ∙ c.if-is_raised.true in
    sym (ring_kept g cs n over)

pub mark_from-requires-clause-flags : goal.mark_from-requires-clause-flags
mark_from-requires-clause-flags c = ap length c.requires.reached ∙ length-reached c.args.graph.now c.args.corners.now

pub returns-clause-corners : goal.returns-clause-corners
returns-clause-corners c =
    let g = c.args.graph.now in
    let cs = c.args.corners.now in
    let n = c.args.n in
    let away : is_reached g cs n ≡ false =
    sym (flag_reached g cs n false c.requires.node) ∙ ap (λ (fs : List Bool). get_or fs n.0 false) (sym c.requires.reached) ∙ sym c.is_raised.ensures ∙ c.if-is_raised.false in
    c.raise.ensures ∙ sym (ring_made g cs n away)

pub returns-clause-reached : goal.returns-clause-reached
returns-clause-reached c =
    let g = c.args.graph.now in
    let cs = c.args.corners.now in
    let n = c.args.n in
    let away : is_reached g cs n ≡ false =
    sym (flag_reached g cs n false c.requires.node) ∙ ap (λ (fs : List Bool). get_or fs n.0 false) (sym c.requires.reached) ∙ sym c.is_raised.ensures ∙ c.if-is_raised.false in
    c.in_ok-mark_from.ensures
    ∙ ap (λ (fs : List Bool). marked_from g fs n c.args.reached.now) c.raise.ensures
    ∙ ring_reached g c.requires.graph cs n c.args.reached.now c.requires.each c.requires.node away c.requires.reached
    ∙ sym (ap (reached_by g) c.raise.ensures)
