use Rattle.label_place.proofs.Held.{Placed}
use Rattle.label_place.proofs.placing.places.Given as goal

abbrev pub invariant-loop-n : goal.invariant-loop-n
invariant-loop-n l = Placed l.grid l.names l.graph l.drawing.walks l.n l.found.items
