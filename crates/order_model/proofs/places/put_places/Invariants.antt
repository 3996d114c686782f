use Rattle.std.proofs.Common.{◌≡◌, take}
use Rattle.order_model.specs.Places.{places_in}
use Rattle.order_model.proofs.places.put_places.Given as goal

abbrev pub invariant-loop-i : goal.invariant-loop-i
invariant-loop-i l = l.places ≡ places_in l.lines (take l.i l.order)
