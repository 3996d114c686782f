use Rattle.std.proofs.Common.{◌≡◌, ◌++◌, map}
use Rattle.std.specs.List.{range_with_len}
use Rattle.serde_json.specs.View.{view}
use Rattle.graph_json.specs.Written.{segment_data}
use Rattle.graph_json.proofs.writing.push_segments.Given as goal

abbrev pub invariant-loop-s : goal.invariant-loop-s
invariant-loop-s l = map view l.features.items ≡ map view l.fn.features.items ++ map (segment_data l.graph) (range_with_len 0 l.s)
