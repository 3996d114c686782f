use Rattle.std.proofs.Common.{◌≡◌, ◌*◌, ◌≤◌, map, take, sum_by}
use Rattle.dual_ascent.specs.OpenPairs.{link_weight}
use Rattle.dual_orders.specs.OwnTerms.{term_at}
use Rattle.dual_orders.proofs.open_pairs.link_weight.Given as goal

abbrev pub invariant-loop-k : goal.invariant-loop-k
invariant-loop-k l = (l.total ≡ sum_by (link_weight (record { 0 = l.s }) l.average.lesser l.average.greater) (map (term_at l.part.problem.now.terms) (take l.k-index l.k-items))) × (l.total ≤ 256000 * l.k-index)
