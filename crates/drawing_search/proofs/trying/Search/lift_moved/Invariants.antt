use Rattle.std.proofs.Common.{◌≡◌, drop, fold, map}
use Rattle.drawing_search.proofs.Common.{lifted, AreLiftable, GridPoint, NodeId}
use Rattle.drawing_search.proofs.trying.Search.lift_moved.Given as goal

-- the nodes that are left are taken off what there is
abbrev pub invariant-loop-known : goal.invariant-loop-known
invariant-loop-known l = record {
  rest : fold lifted l.self.sketch (map (λ (m : NodeId × GridPoint). m.0) (drop l.known-index l.moved)) ≡ fold lifted l.initial.self.sketch (map (λ (m : NodeId × GridPoint). m.0) l.moved);
  can : AreLiftable l.field.graph.now l.self.sketch (map (λ (m : NodeId × GridPoint). m.0) (drop l.known-index l.moved));
  weight : l.self.weight ≡ l.initial.self.weight;
  made : l.self.made ≡ l.initial.self.made;
}
