use Rattle.std.proofs.Common.{◌≡◌, ◌≤◌, ◌++◌, drop}
use Rattle.graph_json.specs.References.{kinds_from}
use Rattle.graph_json.proofs.made.kinds_of.Given as goal

-- what is made and what is left are the whole
abbrev pub invariant-loop-name : goal.invariant-loop-name
invariant-loop-name l = (l.kinds.items ++ kinds_from l.stations (drop l.name-index l.names) ≡ kinds_from 0 l.names) × (l.stations ≤ l.name-index)
