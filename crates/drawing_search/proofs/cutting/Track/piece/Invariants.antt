use Rattle.std.proofs.Common.{◌≡◌}
use Rattle.drawing_search.specs.Tracks.{piece_along}
use Rattle.drawing_search.proofs.cutting.Track.piece.Given as goal

-- the walk so far
abbrev pub invariant-loop-i : goal.invariant-loop-i
invariant-loop-i l = l.walk ≡ piece_along l.self.points.items l.self.steps.items l.from l.i
