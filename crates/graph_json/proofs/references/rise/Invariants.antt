use Rattle.std.proofs.Common.{◌≡◌, drop}
use Rattle.graph_json.specs.References.{rises_from, rises, is_below}
use Rattle.graph_json.proofs.references.rise.Given as goal

-- what is left tells what the whole does
abbrev pub invariant-loop-line : goal.invariant-loop-line
invariant-loop-line l = rises_from is_below l.last (drop l.line-index l.later) ≡ rises is_below l.lines
