use Rattle.std.proofs.Common.{◌≡◌, take}
use Rattle.svg_writer.specs.Picture.{most_lines}
use Rattle.svg_writer.proofs.stations.most_lines.Given as goal

abbrev pub invariant-loop-s : goal.invariant-loop-s
invariant-loop-s l = l.most ≡ most_lines l.graph.lines (take l.s-index l.round)
