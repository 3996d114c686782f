use Rattle.std.proofs.Common.{◌≡◌, map, take}
use Rattle.transit_feed.specs.declared.line.Line.{Line}
use Rattle.graph_maps.proofs.names.line_names.Given as goal

-- the names and colours so far
abbrev pub invariant-loop-line : goal.invariant-loop-line
invariant-loop-line l = l.names.items ≡ map (λ (x : Line). (x.name, x.colour)) (take l.line-index l.lines)
