use Rattle.std.proofs.Common.{◌≡◌, ◌≤◌, filter, length, take}
use Rattle.map_base.specs.declared.ids.SegId.{SegId}
use Rattle.svg_writer.specs.Picture.{lines_at}
use Rattle.poster_rules.specs.Stations.{has_line}
use Rattle.poster_graph.proofs.stations.segments_with.Given as goal

-- how many of the segments so far have the line
abbrev pub invariant-loop-s : goal.invariant-loop-s
invariant-loop-s l = record {
  value : l.count ≡ length (filter (λ (s : SegId). has_line l.line (lines_at l.graph.lines s.0)) (take l.s-index l.round));
  small : l.count ≤ l.s-index;
}
