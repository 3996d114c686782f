use Rattle.std.proofs.Common.{◌≡◌, ◌+◌, length}
use Rattle.shape_track.specs.BestPlaces.{AreRowsOf}
use Rattle.shape_track.proofs.nearby.rows_within.Given as goal

abbrev pub invariant-loop-later : goal.invariant-loop-later
invariant-loop-later l = record {
  count : length l.rows.items ≡ l.later + 1;
  rows : AreRowsOf l.samples l.stations l.reach.limit l.rows.items;
}
