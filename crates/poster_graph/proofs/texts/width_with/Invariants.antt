use Rattle.std.proofs.Common.{◌≡◌, ◌≤◌, ◌+◌, sum_by, take}
use Rattle.map_base.specs.declared.ids.LineId.{LineId}
use Rattle.svg_writer.specs.Picture.{name_of}
use Rattle.name_widths.specs.Widths.{text_width}
use Rattle.poster_graph.proofs.texts.width_with.Given as goal

-- the text and the lines so far
abbrev pub invariant-loop-line : goal.invariant-loop-line
invariant-loop-line l = record {
  value : l.width ≡ text_width l.text + sum_by (λ (a : LineId). 4 + text_width (name_of l.names a)) (take l.line-index l.lines);
  small : l.width ≤ 2305843009213693966;
}
