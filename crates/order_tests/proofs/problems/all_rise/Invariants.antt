use Rattle.std.proofs.Common.{take}
use Rattle.std.specs.List.{All}
use Rattle.graph_core.specs.Consistent.{AreRising}
use Rattle.order_tests.proofs.problems.all_rise.Given as goal

abbrev pub invariant-loop-lines : goal.invariant-loop-lines
invariant-loop-lines l = All AreRising (take l.lines-index l.segs)
