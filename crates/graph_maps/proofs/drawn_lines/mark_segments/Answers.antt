use Rattle.std.proofs.Common.{◌≤◌, ◌∙◌, ap, sym, arith, List, length}
use Rattle.std.proofs.lemmas.List.{at_drop_all}
use Rattle.map_base.specs.declared.ids.LineId.{LineId}
use Rattle.graph_maps.specs.DrawnLines.{after_segments}
use Rattle.graph_maps.proofs.DrawnLemmas.{length-after_lines, segments_more}
use Rattle.graph_maps.proofs.drawn_lines.mark_segments.Goals as goal

pub loop-s-preserved : goal.loop-s-preserved
loop-s-preserved c = record {
  marks = segments_more c.args.graph.now.lines c.loop-s.s c.lines.result.now c.loop-s.marks.items c.mark_lines.new.marks.items _ c.lines.ensures c.mark_lines.ensures c.loop-s.invariant.marks;
  each = ap length c.mark_lines.ensures ∙ length-after_lines c.lines.result.now c.loop-s.marks.items ∙ c.loop-s.invariant.each;
}

pub returns : goal.returns
returns c =
    let over : length c.args.graph.now.lines ≤ c.loop-s.s = omega (arith, c.requires.fits.lines_each, c.segs-s-end.ensures, c.loop-s-test.false) in
    sym (at_drop_all (λ (rest : List (List LineId)). after_segments rest c.loop-s.marks.items) c.args.graph.now.lines c.loop-s.s over) ∙ c.loop-s.invariant.marks
