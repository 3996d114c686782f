use Rattle.std.proofs.Common.{◌<◌, List, ◌++◌, ℕ, drop, length}
use Rattle.shape_track.specs.Snaps.{IsSnapFrom}
use Rattle.shape_track.proofs.nearby.places_along.Given as goal

abbrev pub invariant-loop-index : goal.invariant-loop-index
invariant-loop-index l = record {
  floor : l.floor < length l.samples;
  leads : (rest : List ℕ) → IsSnapFrom l.floor l.samples (drop l.index l.stations) rest → IsSnapFrom 0 l.samples l.stations (l.places.items ++ rest);
}
