use Rattle.std.proofs.Common.{◌≡◌, ◌+◌, ◌++◌, ◌≤◌, replicate, unsigned_abs}
use Rattle.octi_grid.specs.Taking.{trail}
use Rattle.octi_grid.specs.Ways.{after}
use Rattle.drawing_weights.proofs.grid_points.push_run.Given as goal

-- the points so far
abbrev pub invariant-loop : goal.invariant-loop
invariant-loop l = record {
  at : l.at ≡ after l.fn.start (replicate l.counter l.run.dir);
  across : unsigned_abs l.at.x ≤ 10000 + l.counter;
  along : unsigned_abs l.at.y ≤ 10000 + l.counter;
  points : l.points.items ≡ l.fn.points.items ++ trail l.fn.start (replicate l.counter l.run.dir);
}
