use Rattle.std.proofs.Common.{◌≡◌, is_some, [], None, drop, get_or}
use Rattle.drawing_search.proofs.Common.{list_any, SegId}
use Rattle.drawing_search.proofs.sketch.has_walk_at.Given as goal

-- it depends on the segments that are left
abbrev pub invariant-loop-s : goal.invariant-loop-s
invariant-loop-s l =
    list_any (λ (t : SegId). is_some (get_or l.walks t.0 None)) (drop l.s-index l.s-items) ≡ list_any (λ (t : SegId). is_some (get_or l.walks t.0 None)) (get_or l.graph.rounds l.fn.n.0 [])
