use Rattle.std.proofs.Common.{◌≡◌, drop, fold}
use Rattle.drawing_search.specs.Changes.{without_run, AreTakable}
use Rattle.drawing_search.proofs.trying.Search.take_all.Given as goal

-- the runs that are left are taken off what there is
abbrev pub invariant-loop-run : goal.invariant-loop-run
invariant-loop-run l = record {
  rest : fold without_run l.self.sketch (drop l.run-index l.runs) ≡ fold without_run l.initial.self.sketch l.runs;
  can : AreTakable l.field.graph.now l.self.sketch (drop l.run-index l.runs);
  weight : l.self.weight ≡ l.initial.self.weight;
  made : l.self.made ≡ l.initial.self.made;
}
