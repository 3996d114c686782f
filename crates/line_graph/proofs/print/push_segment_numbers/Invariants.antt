use Rattle.std.proofs.Common.{◌≡◌, ◌++◌, take}
use Rattle.std.specs.List.{flat_map}
use Rattle.map_base.specs.declared.ids.SegId.{SegId}
use Rattle.line_graph.specs.Text.{and_number}
use Rattle.line_graph.proofs.print.push_segment_numbers.Given as goal

abbrev pub invariant-loop-s : goal.invariant-loop-s
invariant-loop-s l = l.text.items ≡ l.fn.text.items ++ flat_map (λ (s : SegId). and_number s.0) (take l.s-index l.round)
