use Rattle.std.proofs.Common.{◌≡◌, ◌++◌, List, length, take}
use Rattle.map_base.specs.declared.ids.LineId.{LineId}
use Rattle.order_model.specs.Problems.{lines_on}
use Rattle.dual_orders.specs.NextPairs.{TellsPairs}
use Rattle.dual_ascent.specs.OpenPairs.{OpenPair}
use Rattle.dual_orders.specs.NextPairs.{IsBest, most_undecided, open_of}
use Rattle.dual_orders.proofs.open_pairs.best_on.Given as goal

abbrev pub invariant-loop-average : goal.invariant-loop-average
invariant-loop-average l = (pairs : List (LineId × LineId)) (before : List OpenPair) → TellsPairs pairs (lines_on l.part.problem.now.segs (record { 0 = l.s })) l.direct
    → l.chain ≡ length pairs → IsBest l.part.problem.now (most_undecided l.part.problem.now before) l.initial.best
    → IsBest l.part.problem.now (most_undecided l.part.problem.now (before ++ open_of pairs (record { 0 = l.s }) (take l.average-index l.averages))) l.best
