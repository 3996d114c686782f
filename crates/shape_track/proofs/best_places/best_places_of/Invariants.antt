use Rattle.shape_track.specs.BestPlaces.{IsDescent}
use Rattle.shape_track.proofs.best_places.best_places_of.Given as goal

abbrev pub invariant-looks : goal.invariant-looks
invariant-looks l = IsDescent l.samples l.station l.reach.limit l.later l.descent.row.items l.descent.place l.descent.seen
