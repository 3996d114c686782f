use Rattle.std.proofs.Common.{◌≡◌, ◌-◌, ◌++◌, drop, fold}
use Rattle.run_laying.specs.Sketches.{lifted as lifted_off}
use Rattle.drawing_search.proofs.Common.{inner_nodes, points_along, AreLiftable}
use Rattle.drawing_search.proofs.lifting.lift_between.Given as goal

-- the nodes that are left are taken off what there is
abbrev pub invariant-loop-i : goal.invariant-loop-i
invariant-loop-i l = record {
  rest : fold lifted_off l.sketch (inner_nodes (drop (l.i - 1) l.steps)) ≡ fold lifted_off l.initial.sketch (inner_nodes l.steps);
  can : AreLiftable l.field.graph.now l.sketch (inner_nodes (drop (l.i - 1) l.steps));
  points : l.sketch.points ≡ l.initial.sketch.points;
  inner : l.lifted.inner.items ++ points_along l.initial.sketch (drop (l.i - 1) l.steps) ≡ l.initial.lifted.inner.items ++ points_along l.initial.sketch l.steps;
  walks : l.lifted.walks.items ≡ l.initial.lifted.walks.items;
  moved : l.lifted.moved.items ≡ l.initial.lifted.moved.items;
  weight : l.lifted.rest ≡ l.initial.lifted.rest;
  least : l.lifted.least.items ≡ l.initial.lifted.least.items;
}
