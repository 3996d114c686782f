use Rattle.std.proofs.Common.{◌≡◌, ◌++◌, map}
use Rattle.std.specs.List.{range_with_len}
use Rattle.serde_json.specs.View.{view}
use Rattle.graph_json.specs.Written.{node_data}
use Rattle.graph_json.proofs.writing.push_nodes.Given as goal

abbrev pub invariant-loop-n : goal.invariant-loop-n
invariant-loop-n l = map view l.features.items ≡ map view l.fn.features.items ++ map (node_data l.graph l.names) (range_with_len 0 l.n)
