use Rattle.std.proofs.Common.{◌≡◌, ◌++◌, drop}
use Rattle.label_place.specs.Labelled.{spots_from}
use Rattle.label_place.proofs.whole.spots_of.Given as goal

-- the spots so far and those that are left are all
abbrev pub invariant-loop-n : goal.invariant-loop-n
invariant-loop-n l = l.spots.items ++ spots_from l.names l.graph l.drawing.walks l.n (drop l.n l.places) ≡ spots_from l.names l.graph l.drawing.walks 0 l.places
