use Rattle.std.proofs.Common.{◌≡◌, take}
use Rattle.order_tests.proofs.problems.copied.Given as goal

abbrev pub invariant-loop-lines : goal.invariant-loop-lines
invariant-loop-lines l = l.lists.items ≡ take l.lines-index l.segs
