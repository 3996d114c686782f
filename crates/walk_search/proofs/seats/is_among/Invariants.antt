use Rattle.std.proofs.Common.{◌≡◌, drop}
use Rattle.octi_grid.specs.Legal.{is_among}
use Rattle.walk_search.proofs.seats.is_among.Given as goal

-- a point is among these where it is among those that are left
abbrev pub invariant-loop-point : goal.invariant-loop-point
invariant-loop-point l = is_among (drop l.point-index l.points) l.p ≡ is_among l.points l.p
