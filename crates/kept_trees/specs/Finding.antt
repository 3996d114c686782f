-- What was found, as the definition tells it.
use Rattle.order_values.specs.DualTrees.{plain_dual}
use Rattle.dual_ascent.specs.DualResults.{DualResult}
use Rattle.kept_trees.specs.declared.dual_found.DualFound.{DualFound}

abbrev pub result_found : DualFound → DualResult
result_found f = record {
  complete = f.complete;
  target = f.target;
  tree = plain_dual f.tree;
  orders = f.orders.lists;
  branches = f.branches;
}
