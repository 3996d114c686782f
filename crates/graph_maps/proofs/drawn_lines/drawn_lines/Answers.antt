use Rattle.std.proofs.Common.{◌≡◌, ◌∙◌, ap, subst, arith, false, List, length, replicate, IfOk}
use Rattle.std.proofs.lemmas.List.{length-replicate}
use Rattle.map_base.specs.declared.ids.LineId.{LineId}
use Rattle.graph_maps.specs.DrawnLines.{marked_lines}
use Rattle.graph_maps.proofs.DrawnLemmas.{drawn_after, length-after_segments}
use Rattle.graph_maps.proofs.drawn_lines.drawn_lines.Goals as goal

pub marked_lines-requires : goal.marked_lines-requires
marked_lines-requires c =
    let none : c.in_ok-marks.marks.items ≡ replicate c.args.count false = c.in_ok-marks.ensures.items_if_clones_equal (λ y e. e) in
    let each : length c.as_slice.result.now ≡ c.args.count =
    ap length (c.as_slice.ensures.value ∙ c.mark_segments.ensures) ∙ length-after_segments c.args.graph.now.lines c.in_ok-marks.marks.items
    ∙ ap length none ∙ length-replicate c.args.count false in
    omega (arith, each)

pub returns : goal.returns
returns c =
    let none : c.in_ok-marks.marks.items ≡ replicate c.args.count false = c.in_ok-marks.ensures.items_if_clones_equal (λ y e. e) in
    let marks = c.as_slice.ensures.value ∙ c.mark_segments.ensures in
    subst (λ (ls : List LineId). IfOk c.marked_lines.result (λ lines. lines.items ≡ ls))
    (ap (marked_lines 0) marks ∙ drawn_after c.args.graph.now c.args.count c.in_ok-marks.marks.items none c.requires.below)
    c.marked_lines.ensures
