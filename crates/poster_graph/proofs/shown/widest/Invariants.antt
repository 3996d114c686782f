use Rattle.std.proofs.Common.{◌≡◌, take}
use Rattle.poster_rules.specs.Plans.{widest}
use Rattle.poster_graph.proofs.shown.widest.Given as goal

-- the widest of the lines so far
abbrev pub invariant-loop-line : goal.invariant-loop-line
invariant-loop-line l = l.most ≡ widest l.names (take l.line-index l.lines)
