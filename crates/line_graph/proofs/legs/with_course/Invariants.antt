use Rattle.std.proofs.Common.{◌≡◌, fold, take}
use Rattle.line_graph.specs.Legs.{legs_of}
use Rattle.line_graph.specs.StretchTables.{with_leg}
use Rattle.line_graph.proofs.legs.with_course.Given as goal

abbrev pub invariant-loop-k : goal.invariant-loop-k
invariant-loop-k l = l.table ≡ fold with_leg l.fn.table (take l.k (legs_of l.course))
