use Rattle.std.proofs.Common.{◌≡◌, drop, map}
use Rattle.map_base.specs.declared.ids.NodeId.{NodeId}
use Rattle.line_chains.specs.Bends.{node_at, off_of, place_of}
use Rattle.line_chains.proofs.Farthest.{scan}
use Rattle.line_chains.proofs.bends.farthest.Given as goal

-- the first of those that lie farthest off so far, and the nodes that are left
abbrev pub invariant-loop-i : goal.invariant-loop-i
invariant-loop-i l =
    scan l.best l.i (map (λ (n : NodeId). off_of l.fn.a l.fn.b (place_of l.graph n)) (drop l.i l.inner))
    ≡ scan (0, off_of l.fn.a l.fn.b (place_of l.graph (node_at l.inner 0))) 1 (map (λ (n : NodeId). off_of l.fn.a l.fn.b (place_of l.graph n)) (drop 1 l.inner))
