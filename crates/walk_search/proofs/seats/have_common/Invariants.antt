use Rattle.std.proofs.Common.{◌≡◌, drop}
use Rattle.std.specs.List.{list_any}
use Rattle.octi_grid.specs.Legal.{is_among}
use Rattle.walk_search.proofs.seats.have_common.Given as goal

-- one of the others is among the points where one of those that are left is
abbrev pub invariant-loop-other : goal.invariant-loop-other
invariant-loop-other l = list_any (is_among l.points) (drop l.other-index l.others) ≡ list_any (is_among l.points) l.others
