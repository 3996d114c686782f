use Rattle.std.proofs.Common.{◌≡◌, drop}
use Rattle.drawing_search.proofs.Common.{without_walks, IsLegalSketch}
use Rattle.drawing_search.proofs.sketch.Sketch.take_run.Given as goal

-- the steps that are left lose their walks
abbrev pub invariant-loop-step : goal.invariant-loop-step
invariant-loop-step l = record {
  rest : without_walks l.self (drop l.step-index l.steps) ≡ without_walks l.initial.self l.steps;
  legal : IsLegalSketch l.graph l.self;
}
