use Rattle.std.proofs.Common.{◌≡◌, ◌≤◌, ◌+◌, length, drop}
use Rattle.graph_json.specs.Limits.{names_in}
use Rattle.graph_json.proofs.limits.stations_in.Given as goal

abbrev pub invariant-loop-name : goal.invariant-loop-name
invariant-loop-name l =
    (l.stations + length (names_in (drop l.name-index l.names)) ≡ length (names_in l.names)) × (l.stations ≤ l.name-index)
