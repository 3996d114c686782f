use Rattle.std.proofs.Common.{◌≡◌, length, drop}
use Rattle.graph_maps.specs.DrawnLines.{after_segments}
use Rattle.graph_maps.proofs.drawn_lines.mark_segments.Given as goal

-- the marks of what is left are those of all
abbrev pub invariant-loop-s : goal.invariant-loop-s
invariant-loop-s l = record {
  marks : after_segments (drop l.s l.graph.lines) l.marks.items ≡ after_segments l.graph.lines l.fn.marks.items;
  each : length l.marks.items ≡ length l.fn.marks.items;
}
