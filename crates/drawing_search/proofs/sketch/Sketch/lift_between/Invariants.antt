use Rattle.std.proofs.Common.{◌≡◌, ◌-◌, drop, fold}
use Rattle.drawing_search.proofs.Common.{inner_nodes, lifted, AreLiftable}
use Rattle.drawing_search.proofs.sketch.Sketch.lift_between.Given as goal

-- the nodes that are left are taken off what there is
abbrev pub invariant-loop-i : goal.invariant-loop-i
invariant-loop-i l = record {
  rest : fold lifted l.self (inner_nodes (drop (l.i - 1) l.steps)) ≡ fold lifted l.initial.self (inner_nodes l.steps);
  can : AreLiftable l.graph l.self (inner_nodes (drop (l.i - 1) l.steps));
}
