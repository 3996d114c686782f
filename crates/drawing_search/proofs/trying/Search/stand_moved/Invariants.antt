use Rattle.std.proofs.Common.{◌≡◌, drop, fold}
use Rattle.drawing_search.specs.Changes.{all_moved, stood_at, CanStandEach}
use Rattle.drawing_search.proofs.trying.Search.stand_moved.Given as goal

-- the nodes that are left are put on what there is
abbrev pub invariant-loop-known : goal.invariant-loop-known
invariant-loop-known l = record {
  rest : fold stood_at l.self.sketch (all_moved l.vector (drop l.known-index l.moved)) ≡ fold stood_at l.initial.self.sketch (all_moved l.vector l.moved);
  can : CanStandEach l.self.sketch (all_moved l.vector (drop l.known-index l.moved));
  weight : l.self.weight ≡ l.initial.self.weight;
  made : l.self.made ≡ l.initial.self.made;
}
