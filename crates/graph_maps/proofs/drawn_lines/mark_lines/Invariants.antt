use Rattle.std.proofs.Common.{◌≡◌, length, drop}
use Rattle.graph_maps.specs.DrawnLines.{after_lines}
use Rattle.graph_maps.proofs.drawn_lines.mark_lines.Given as goal

-- the marks of what is left are those of all
abbrev pub invariant-loop-line : goal.invariant-loop-line
invariant-loop-line l = record {
  marks : after_lines (drop l.line-index l.lines) l.marks.items ≡ after_lines l.lines l.fn.marks.items;
  each : length l.marks.items ≡ length l.fn.marks.items;
}
