-- The pair of a fork is of two lines of its segment.
use Rattle.std.proofs.Common.{◌≡◌, ◌==◌, ◌&&◌, Bool, true, not, List, sym, subst, arith, Some}
use Rattle.std.specs.List.{All}
use Rattle.std.proofs.lemmas.Bool.{and_parts, not-true}
use Rattle.map_base.specs.declared.ids.SegId.{SegId}
use Rattle.map_base.specs.declared.ids.LineId.{LineId}
use Rattle.graph_core.specs.Consistent.{AreRising}
use Rattle.order_model.specs.declared.problem.ProblemParts.{ProblemParts}
use Rattle.order_model.specs.Problems.{lines_on}
use Rattle.order_model.specs.PartTerms.{is_in}
use Rattle.order_model.specs.Places.{has_line}
use Rattle.dual_bound.specs.declared.settled.SettledPair.{SettledPair}
use Rattle.dual_ascent.specs.declared.pair_average.PairAverage.{PairAverage}
use Rattle.dual_ascent.specs.OwnNumbers.{segments_from}
use Rattle.dual_ascent.specs.Averages.{ArePairs}
use Rattle.dual_ascent.specs.OpenPairs.{next_pair, ahead, behind}
use Rattle.dual_ascent.proofs.Pairs.{next_forks}
use Rattle.dual_orders.specs.NextPairs.{IsNextPair}
use Rattle.dual_orders.specs.SettledPairs.{IsPairOn}
use Rattle.kept_trees.proofs.OwnNumbers.{within_from}
use Rattle.kept_trees.proofs.Walking.{some_next, same_pair, pair_with}

fork_on : (segs : List (List LineId)) (s : SegId) (a b : LineId)
    → (is_in (segments_from 0 segs) s &&
    (has_line (lines_on segs s) a && (has_line (lines_on segs s) b && not (a.0 == b.0)))) ≡ true
    → IsPairOn segs (pair_with s a b)
fork_on segs s a b h =
    let has : LineId → Bool = has_line (lines_on segs s) in
    let known = and_parts (is_in (segments_from 0 segs) s) (has a && (has b && not (a.0 == b.0))) h in
    let lines = and_parts (has a) (has b && not (a.0 == b.0)) known.1 in
    let more = and_parts (has b) (not (a.0 == b.0)) lines.1 in
    record {
      known = omega (arith, within_from 0 segs s known.0);
      two = record { first_on = lines.0; second_on = more.0; differ = not-true (a.0 == b.0) more.1 };
    }

pub next_on : (p : ProblemParts) (settled : List SettledPair) (averages : List (List PairAverage)) (pair : SettledPair)
    → All AreRising p.segs → ArePairs p averages
    → IsNextPair (next_pair p settled averages) (Some pair) → IsPairOn p.segs pair
next_on p settled averages pair rising pairs is =
    let n = some_next (next_pair p settled averages) pair is in
    subst (IsPairOn p.segs) (sym (same_pair pair n.0.seg (ahead n.0) (behind n.0) n.2.seg n.2.first n.2.second))
    (fork_on p.segs n.0.seg (ahead n.0) (behind n.0) (next_forks p settled averages pairs 0 n.0 rising n.1))
