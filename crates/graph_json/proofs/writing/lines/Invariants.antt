use Rattle.std.proofs.Common.{◌≡◌, map}
use Rattle.std.specs.List.{range_with_len}
use Rattle.serde_json.specs.View.{view}
use Rattle.graph_json.specs.Written.{line_data}
use Rattle.graph_json.proofs.writing.lines.Given as goal

abbrev pub invariant-loop-l : goal.invariant-loop-l
invariant-loop-l l = map view l.lines.items ≡ map (line_data l.names l.importance) (range_with_len 0 l.l)
