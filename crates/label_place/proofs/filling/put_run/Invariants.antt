use Rattle.std.proofs.Common.{◌≡◌, ◌+◌, ◌≤◌, replicate, unsigned_abs}
use Rattle.octi_grid.specs.Ways.{after}
use Rattle.label_place.specs.Grids.{strokes_from, Adds}
use Rattle.label_place.proofs.filling.put_run.Given as goal

-- the table has the steps so far
abbrev pub invariant-loop : goal.invariant-loop
invariant-loop l = record {
  at : l.at ≡ after l.fn.start (replicate l.counter l.run.dir);
  across : unsigned_abs l.at.x ≤ 10000 + l.counter;
  along : unsigned_abs l.at.y ≤ 10000 + l.counter;
  adds : Adds l.fn.grid l.grid (strokes_from l.margin l.fn.start (replicate l.counter l.run.dir));
}
