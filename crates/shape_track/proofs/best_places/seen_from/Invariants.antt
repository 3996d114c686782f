use Rattle.shape_track.specs.BestPlaces.{AreSeen}
use Rattle.shape_track.proofs.best_places.seen_from.Given as goal

abbrev pub invariant-loop-next : goal.invariant-loop-next
invariant-loop-next l = AreSeen l.row l.floor l.next
