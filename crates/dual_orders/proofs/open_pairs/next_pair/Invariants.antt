use Rattle.std.proofs.Common.{take}
use Rattle.std.specs.List.{flat_map}
use Rattle.dual_ascent.specs.OwnNumbers.{all_segments}
use Rattle.dual_ascent.specs.OpenPairs.{open_on}
use Rattle.dual_rounds.specs.Ranges.{averages_of}
use Rattle.dual_orders.specs.SettledPairs.{pairs_of}
use Rattle.dual_orders.specs.Solvers.{HasRoomFor}
use Rattle.dual_orders.specs.NextPairs.{IsBest, most_undecided}
use Rattle.dual_orders.proofs.open_pairs.next_pair.Given as goal

abbrev pub invariant-loop-s : goal.invariant-loop-s
invariant-loop-s l =
    IsBest l.part.problem.now (most_undecided l.part.problem.now (flat_map (open_on (pairs_of l.settled) (averages_of l.averages)) (take l.s (all_segments l.part.problem.now)))) l.best
    × HasRoomFor l.part.problem.now l.solver
