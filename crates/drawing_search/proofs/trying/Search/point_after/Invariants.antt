use Rattle.std.proofs.Common.{◌≡◌, drop}
use Rattle.drawing_search.specs.Changes.{point_after}
use Rattle.drawing_search.proofs.trying.Search.point_after.Given as goal

-- it depends on the nodes that are left
abbrev pub invariant-loop-known : goal.invariant-loop-known
invariant-loop-known l = point_after l.self.sketch l.vector (drop l.known-index l.moved) l.n ≡ point_after l.self.sketch l.vector l.moved l.n
