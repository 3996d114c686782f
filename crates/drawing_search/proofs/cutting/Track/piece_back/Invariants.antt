use Rattle.std.proofs.Common.{◌≡◌, ◌-◌}
use Rattle.drawing_search.proofs.Common.{piece_along, reversed_walk}
use Rattle.drawing_search.proofs.cutting.Track.piece_back.Given as goal

-- the walk so far
abbrev pub invariant-loop-i : goal.invariant-loop-i
invariant-loop-i l = l.walk ≡ reversed_walk (piece_along l.self.points.items l.self.steps.items (l.to - l.i) l.to)
