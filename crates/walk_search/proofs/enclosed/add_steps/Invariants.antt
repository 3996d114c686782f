use Rattle.walk_search.specs.Asking.{question}
use Rattle.walk_search.specs.Enclosed.{AreInside, HasSteps, IsLonger}
use Rattle.walk_search.proofs.enclosed.add_steps.Given as goal

abbrev pub invariant-loop-n : goal.invariant-loop-n
invariant-loop-n l = record {
  longer : IsLonger l.initial.points.items l.points.items;
  inside : AreInside (question l.asked) l.points.items;
  steps : HasSteps (question l.asked) l.points.items l.p l.n;
}
