-- The segments round a node.
use Rattle.std.specs.Prelude.{◌≡◌, ℕ, ◌+◌, ◌%◌, ◌||◌, ◌==◌, Bool, List, [], ◌∷◌, length, if◌then◌else◌, Some, slice_get}
use Rattle.map_base.specs.declared.ids.NodeId.{NodeId}
use Rattle.map_base.specs.declared.ids.SegId.{SegId}

-- the segment of these ends has an end at the node
abbrev pub ends_at : ℕ → NodeId × NodeId → Bool
ends_at n e = e.0.0 == n || e.1.0 == n

-- of segments numbered from i, those that end at the node, rising
abbrev pub segments_from : ℕ → ℕ → List (NodeId × NodeId) → List SegId
segments_from i n [] = []
segments_from i n (e ∷ es) = if ends_at n e then record { 0 = i } ∷ segments_from (i + 1) n es else segments_from (i + 1) n es

-- the segments that end at the node, rising
abbrev pub segments_at : ℕ → List (NodeId × NodeId) → List SegId
segments_at n ends = segments_from 0 n ends

-- s stands at some place of the round, and r stands k places clockwise after it
abbrev pub IsAfter : List SegId → SegId → ℕ → SegId → Type 0
IsAfter round s k r = (i : ℕ) × (slice_get round i ≡ Some s) × (slice_get round ((i + k) % length round) ≡ Some r)
