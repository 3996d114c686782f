use Rattle.std.proofs.Common.{take, length}
use Rattle.order_model.specs.Gathering.{part_lists}
use Rattle.order_model.proofs.Numbering.{AreNumberedSoFar}
use Rattle.order_model.proofs.part_numbers.numbers_of.Given as goal

abbrev pub invariant-loop-k : goal.invariant-loop-k
invariant-loop-k l = AreNumberedSoFar (take l.k (part_lists l.parts)) (length l.parts) (length l.problem.segs) l.numbers.items
