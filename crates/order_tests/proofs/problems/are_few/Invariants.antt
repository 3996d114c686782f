use Rattle.std.proofs.Common.{◌≤◌, take}
use Rattle.std.specs.List.{All}
use Rattle.order_model.specs.Problems.{choices}
use Rattle.order_tests.proofs.problems.are_few.Given as goal

abbrev pub invariant-loop-lines : goal.invariant-loop-lines
invariant-loop-lines l = All (λ lines. choices lines ≤ 1000) (take l.lines-index l.segs)
