use Rattle.std.proofs.Common.{◌≡◌, ◌≤◌, drop, unsigned_abs}
use Rattle.start_positions.specs.Cells.{greatest_beside, greatest_number}
use Rattle.start_positions.specs.Nodes.{coordinates}
use Rattle.start_positions.proofs.cells.greatest.Given as goal

abbrev pub invariant-loop-n : goal.invariant-loop-n
invariant-loop-n l = record {
  rest : greatest_beside l.greatest (drop l.n (coordinates l.graph.places l.east)) ≡ greatest_number (coordinates l.graph.places l.east);
  near : unsigned_abs l.greatest ≤ 300000000;
}
