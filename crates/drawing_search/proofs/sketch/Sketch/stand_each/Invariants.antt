use Rattle.std.proofs.Common.{◌≡◌, drop, fold}
use Rattle.drawing_search.specs.Changes.{stood_at, CanStandEach}
use Rattle.drawing_search.proofs.sketch.Sketch.stand_each.Given as goal

-- the nodes that are left are put on what there is
abbrev pub invariant-loop-at : goal.invariant-loop-at
invariant-loop-at l = record {
  rest : fold stood_at l.self (drop l.at-index l.known) ≡ fold stood_at l.initial.self l.known;
  can : CanStandEach l.self (drop l.at-index l.known);
}
