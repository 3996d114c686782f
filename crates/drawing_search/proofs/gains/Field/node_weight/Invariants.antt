use Rattle.std.proofs.Common.{◌≡◌, ◌*◌, ◌≤◌, length, take}
use Rattle.drawing_search.proofs.Common.{sum_by, turn_in}
use Rattle.drawing_search.proofs.gains.Field.node_weight.Given as goal

-- the turns so far, each of them of 180 degrees at most
abbrev pub invariant-loop-pair : goal.invariant-loop-pair
invariant-loop-pair l = record {
  weight : l.total ≡ sum_by (turn_in l.self.graph.now l.sketch l.n.0) (take l.pair-index l.pair-items);
  small : l.total ≤ 4 * l.pair-index;
  within : l.pair-index ≤ length l.pair-items;
}
