use Rattle.std.proofs.Common.{◌≡◌, ◌≤◌, drop, unsigned_abs}
use Rattle.start_positions.specs.Cells.{least_beside, least_number}
use Rattle.start_positions.specs.Nodes.{coordinates}
use Rattle.start_positions.proofs.cells.least.Given as goal

abbrev pub invariant-loop-n : goal.invariant-loop-n
invariant-loop-n l = record {
  rest : least_beside l.least (drop l.n (coordinates l.graph.places l.east)) ≡ least_number (coordinates l.graph.places l.east);
  near : unsigned_abs l.least ≤ 300000000;
}
