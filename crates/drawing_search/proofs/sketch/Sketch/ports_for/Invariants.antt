use Rattle.std.proofs.Common.{◌≡◌, ◌++◌, [], drop, get_or}
use Rattle.segment_router.specs.Underway.{known_ports}
use Rattle.drawing_search.proofs.Common.{board_under, port_at_node}
use Rattle.drawing_search.proofs.sketch.Sketch.ports_for.Given as goal

-- the ports so far, and those of the segments that are left
abbrev pub invariant-loop-s : goal.invariant-loop-s
invariant-loop-s l =
    l.taken.items ++ known_ports (port_at_node l.graph (board_under l.self) l.n.0) (drop l.s-index l.s-items)
    ≡ known_ports (port_at_node l.graph (board_under l.self) l.n.0) (get_or l.graph.rounds l.n.0 [])
