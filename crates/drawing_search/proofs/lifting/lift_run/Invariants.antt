use Rattle.std.proofs.Common.{◌≡◌, ◌++◌, drop}
use Rattle.drawing_search.proofs.Common.{walks_along, without_walks, IsLegalSketch}
use Rattle.drawing_search.proofs.lifting.lift_run.Given as goal

-- the steps that are left lose their walks
abbrev pub invariant-loop-step : goal.invariant-loop-step
invariant-loop-step l = record {
  rest : without_walks l.sketch (drop l.step-index l.steps) ≡ without_walks l.initial.sketch l.steps;
  legal : IsLegalSketch l.field.graph.now l.sketch;
  walks : l.lifted.walks.items ++ walks_along l.sketch (drop l.step-index l.steps) ≡ l.initial.lifted.walks.items ++ walks_along l.initial.sketch l.steps;
  points : l.sketch.points ≡ l.initial.sketch.points;
  inner : l.lifted.inner.items ≡ l.initial.lifted.inner.items;
  moved : l.lifted.moved.items ≡ l.initial.lifted.moved.items;
  weight : l.lifted.rest ≡ l.initial.lifted.rest;
  least : l.lifted.least.items ≡ l.initial.lifted.least.items;
}
