use Rattle.std.proofs.Common.{◌≡◌, drop}
use Rattle.drawing_search.specs.Changes.{has_room}
use Rattle.drawing_search.proofs.trying.Search.has_room.Given as goal

-- it depends on the nodes that are left
abbrev pub invariant-loop-known : goal.invariant-loop-known
invariant-loop-known l = has_room l.self.sketch l.vector (drop l.known-index l.moved) ≡ has_room l.self.sketch l.vector l.moved
