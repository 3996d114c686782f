use Rattle.std.proofs.Common.{◌≡◌, map, take}
use Rattle.std.specs.List.{filter}
use Rattle.graph_maps.specs.Certificates.{is_weighty, weighed_line}
use Rattle.graph_maps.proofs.drawn_lines.weighty_lines.Given as goal

-- the pairs so far
abbrev pub invariant-loop-line : goal.invariant-loop-line
invariant-loop-line l = l.pairs.items ≡ filter is_weighty (map (weighed_line l.importance) (take l.line-index l.lines))
