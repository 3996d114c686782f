use Rattle.std.proofs.Common.{◌≡◌, ◌++◌, take}
use Rattle.std.specs.List.{flat_map}
use Rattle.feed_courses.specs.declared.courses.Course.{Course}
use Rattle.line_graph.specs.Legs.{legs_of}
use Rattle.line_graph.specs.Handing.{passages_between}
use Rattle.line_graph.specs.StretchTables.{path_in}
use Rattle.line_graph.proofs.passages.push_courses.Given as goal

abbrev pub invariant-loop-course : goal.invariant-loop-course
invariant-loop-course l = l.passages.items ≡ l.fn.passages.items ++ flat_map (λ (c : Course). passages_between (path_in l.table l.ways) (legs_of c)) (take l.course-index l.courses)
