use Rattle.std.proofs.Common.{◌≡◌, take}
use Rattle.line_graph.specs.Outcome.{all_samples}
use Rattle.line_graph.proofs.samples.all_samples.Given as goal

abbrev pub invariant-loop-course : goal.invariant-loop-course
invariant-loop-course l = l.samples.items ≡ all_samples (take l.course-index l.courses)
