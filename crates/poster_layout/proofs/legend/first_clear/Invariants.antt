use Rattle.std.proofs.Common.{◌≡◌, drop}
use Rattle.std.specs.List.{find}
use Rattle.poster_layout.specs.Extents.{is_clear_at}
use Rattle.poster_layout.proofs.legend.first_clear.Given as goal

-- it is clear at none of the points so far
abbrev pub invariant-loop-corner : goal.invariant-loop-corner
invariant-loop-corner l =
    find (is_clear_at l.pitch l.plan l.printed l.width l.height) (drop l.corner-index l.corners)
    ≡ find (is_clear_at l.pitch l.plan l.printed l.width l.height) l.corners
