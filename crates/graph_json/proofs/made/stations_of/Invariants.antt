use Rattle.std.proofs.Common.{◌≡◌}
use Rattle.graph_json.specs.Limits.{names_in}
use Rattle.graph_json.proofs.made.stations_of.Given as goal

abbrev pub invariant-loop-name : goal.invariant-loop-name
invariant-loop-name l = l.stations.items ≡ names_in l.yielded
