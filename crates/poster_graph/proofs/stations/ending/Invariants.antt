use Rattle.std.proofs.Common.{◌≡◌, filter, take}
use Rattle.poster_rules.specs.Stations.{is_end}
use Rattle.poster_graph.proofs.stations.ending.Given as goal

-- those of the lines so far that end
abbrev pub invariant-loop-line : goal.invariant-loop-line
invariant-loop-line l = l.lines.items ≡ filter (is_end l.served.names.now l.served.graph.now l.n.0) (take l.line-index l.callers)
