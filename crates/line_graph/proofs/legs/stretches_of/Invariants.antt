use Rattle.std.proofs.Common.{◌≡◌, take}
use Rattle.line_graph.specs.Legs.{all_legs}
use Rattle.line_graph.specs.StretchTables.{table_of}
use Rattle.line_graph.proofs.legs.stretches_of.Given as goal

abbrev pub invariant-loop-course : goal.invariant-loop-course
invariant-loop-course l = l.table ≡ table_of (all_legs (take l.course-index l.courses))
