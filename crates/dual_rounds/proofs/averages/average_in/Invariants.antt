use Rattle.std.proofs.Common.{[], All}
use Rattle.dual_rounds.specs.Ranges.{IsAverage, averages_of}
use Rattle.dual_rounds.proofs.Filling.{IsFilledTo}
use Rattle.dual_rounds.proofs.SegmentLists.{averages_by}
use Rattle.dual_rounds.proofs.averages.average_in.Given as goal

abbrev pub invariant-loop-s : goal.invariant-loop-s
invariant-loop-s l = IsFilledTo (averages_by l.round l.orders) [] l.s (averages_of l.initial.averages) (averages_of l.averages) × All (All IsAverage) (averages_of l.averages)
