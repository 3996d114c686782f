use Rattle.std.proofs.Common.{◌≡◌}
use Rattle.drawing_search.proofs.Common.{filter, is_even, point_at, range_with_len}
use Rattle.drawing_search.proofs.cutting.Track.even_places.Given as goal

-- the places so far
abbrev pub invariant-loop-i : goal.invariant-loop-i
invariant-loop-i l = l.places.items ≡ filter (λ i. is_even (point_at l.self.points.items i)) (range_with_len 0 l.i)
