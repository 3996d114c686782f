use Rattle.std.proofs.Common.{◌≤◌, ◌+◌, take, sum_by}
use Rattle.std.specs.Prelude.{All, Contains}
use Rattle.order_model.specs.Costs.{AreOrders}
use Rattle.kept_trees.specs.Keeping.{branches_to_meet}
use Rattle.graph_maps.specs.Solving.{parts_in}
use Rattle.graph_maps.specs.Stages.{AreSolved}
use Rattle.graph_maps.proofs.KeepLemmas.{AreHeld}
use Rattle.graph_maps.proofs.solving.solve_all.Given as goal

abbrev pub invariant-loop-k : goal.invariant-loop-k
invariant-loop-k g l = record {
  solved : AreSolved l.plan l.problem l.k l.solution;
  orders : AreOrders l.problem.segs l.solution.orders.items;
  kept : All (Contains l.kept) l.fn.kept;
  held : AreHeld l.plan l.kept l.problem (take l.k (parts_in l.problem));
  steps : l.steps ≤ l.fn.steps + sum_by (branches_to_meet l.fn.kept l.plan l.problem) (take l.k (parts_in l.problem));
}
