use Rattle.std.proofs.Common.{◌≡◌, ◌≤◌, ◌-◌, ◌++◌, drop}
use Rattle.shape_track.specs.Hops.{hops_of, total_of}
use Rattle.shape_track.proofs.HopLemmas.{lists_of}
use Rattle.shape_track.proofs.tracking.track.Given as goal

abbrev pub invariant-loop-index : goal.invariant-loop-index
invariant-loop-index l = record {
  kept : lists_of l.hops.items ++ hops_of l.near l.samples (drop (l.index - 1) l.stations) (drop (l.index - 1) l.places) ≡ hops_of l.near l.samples l.stations l.places;
  counted : l.count ≡ total_of (lists_of l.hops.items);
  within : l.count ≤ l.most;
}
