use Rattle.std.proofs.Common.{[]}
use Rattle.dual_rounds.proofs.Filling.{IsFilledTo}
use Rattle.dual_rounds.proofs.SegmentLists.{copied_by}
use Rattle.dual_rounds.proofs.line_order.copy_orders.Given as goal

abbrev pub invariant-loop-s : goal.invariant-loop-s
invariant-loop-s l = IsFilledTo (copied_by l.from) [] l.s l.initial.to l.to
