-- The segments round a node.
use Rattle.std.proofs.Common.{◌≡◌, ℕ, List, [], ◌∷◌, refl}
use Rattle.map_base.specs.declared.ids.NodeId.{NodeId}
use Rattle.map_base.specs.declared.ids.SegId.{SegId}
use Rattle.graph_core.specs.Round.{segments_at, IsAfter}

abbrev node : ℕ → NodeId
node n = record { 0 = n }

abbrev segment : ℕ → SegId
segment n = record { 0 = n }

-- the segments that end at a node, by either end, rising
both_ends : segments_at 3 ((node 0, node 3) ∷ (node 1, node 2) ∷ (node 3, node 4) ∷ []) ≡ segment 0 ∷ segment 2 ∷ []
both_ends = refl

none_there : segments_at 5 ((node 0, node 3) ∷ []) ≡ []
none_there = refl

abbrev round : List SegId
round = segment 2 ∷ segment 1 ∷ segment 0 ∷ []

-- the round goes on at its start
goes_round : IsAfter round (segment 0) 1 (segment 2)
goes_round = (2, refl, refl)

two_after : IsAfter round (segment 2) 2 (segment 0)
two_after = (0, refl, refl)
