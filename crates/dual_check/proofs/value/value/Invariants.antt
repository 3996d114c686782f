use Rattle.std.proofs.Common.{◌≡◌, ◌-◌, ◌*◌, length, drop, Some}
use Rattle.std.specs.Prelude.{pos, ◌-ℤ◌, ◌≤ℤ◌}
use Rattle.order_values.specs.PriceLists.{price_at}
use Rattle.dual_bound.specs.Values.{value_of}
use Rattle.dual_check.specs.Asking.{question_of, HasRoomFor}
use Rattle.dual_check.specs.Settling.{pairs_of}
use Rattle.dual_check.specs.Nodes.{IsNode, AreAsBefore}
use Rattle.dual_check.proofs.value.value.Given as goal

abbrev pub invariant-loop-k : goal.invariant-loop-k
invariant-loop-k l = record {
  value : Some l.total ≡ value_of l.asked.problem.now.segs (question_of l.asked).terms (price_at l.fn.node.prices.items) (pairs_of l.fn.node.settled.items) (drop l.k l.asked.part.now);
  low : (pos 0 -ℤ pos (9223372036854775808 * (length l.asked.part.now - l.k))) ≤ℤ l.total;
  high : l.total ≤ℤ pos (9223372036854775808 * (length l.asked.part.now - l.k));
  same : AreAsBefore l.fn.node l.node;
  node : IsNode l.asked l.node;
  room : HasRoomFor l.asked l.solver;
}
