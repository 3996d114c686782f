use Rattle.std.proofs.Common.{◌≡◌, ◌-◌, drop, length}
use Rattle.shape_track.specs.Sweeps.{AreLeastCosts, AreBounded}
use Rattle.shape_track.specs.Rows.{AreRows}
use Rattle.shape_track.proofs.snapping.rows_of.Given as goal

abbrev pub invariant-loop-later : goal.invariant-loop-later
invariant-loop-later l = record {
  count : length l.rows.items ≡ l.later;
  rows : AreRows l.samples l.stations l.rows.items;
  costs : AreLeastCosts l.samples (drop (length l.stations - l.later) l.stations) l.costs.items;
  bounded : AreBounded l.later l.costs.items;
}
