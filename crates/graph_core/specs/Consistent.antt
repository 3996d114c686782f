-- When the parts of a line graph fit together.
use Rattle.std.specs.Prelude.{◌≡◌, ℕ, ◌<◌, ◌≤◌, ◌≤ℤ◌, ◌⊎◌, pos, negsuc, List, [], ◌∷◌, length, All, Contains, EachIndex, slice_index_or, IsPermutation}
use Rattle.map_base.specs.declared.ids.NodeId.{NodeId}
use Rattle.map_base.specs.declared.ids.SegId.{SegId}
use Rattle.map_base.specs.declared.ids.LineId.{LineId}
use Rattle.map_base.specs.declared.point.Point.{Point}
use Rattle.graph_core.specs.declared.parts.GraphParts.{GraphParts}
use Rattle.graph_core.specs.declared.parts.Join.{Join}
use Rattle.graph_core.specs.Round.{segments_at}

-- a coordinate lies within 300,000,000 decimetres either way
abbrev pub IsNear : Point → Type 0
IsNear p = (negsuc 299999999 ≤ℤ p.x) × (p.x ≤ℤ pos 300000000) × (negsuc 299999999 ≤ℤ p.y) × (p.y ≤ℤ pos 300000000)

-- the lower end is below the upper end, and both are nodes
abbrev pub AreEnds : ℕ → NodeId × NodeId → Type 0
AreEnds nodes e = (e.0.0 < e.1.0) × (e.1.0 < nodes)

-- the lines rise strictly
abbrev pub AreRising : List LineId → Type 0
AreRising [] = Unit {0}
AreRising (a ∷ []) = Unit {0}
AreRising (a ∷ b ∷ rest) = (a.0 < b.0) × AreRising (b ∷ rest)

-- one join stands before another: by the lesser segment, then by the greater, then by line
abbrev pub IsBefore : Join → Join → Type 0
IsBefore a b = (a.e.0 < b.e.0) ⊎ (a.e.0 ≡ b.e.0) × ((a.f.0 < b.f.0) ⊎ (a.f.0 ≡ b.f.0) × (a.line.0 < b.line.0))

-- the joins rise strictly
abbrev pub AreSorted : List Join → Type 0
AreSorted [] = Unit {0}
AreSorted (a ∷ []) = Unit {0}
AreSorted (a ∷ b ∷ rest) = IsBefore a b × AreSorted (b ∷ rest)

-- the lines of a segment, none where there is no such segment
abbrev pub lines_at : List (List LineId) → SegId → List LineId
lines_at lines s = slice_index_or lines s.0 []

-- a join names two segments of the node's round, the lesser first, and a line that is on both
pub record IsJoin (lines : List (List LineId)) (round : List SegId) (j : Join) : Type 0 where
  pub order : j.e.0 < j.f.0
  pub lesser : Contains round j.e
  pub greater : Contains round j.f
  pub on_lesser : Contains (lines_at lines j.e) j.line
  pub on_greater : Contains (lines_at lines j.f) j.line

-- a round is not empty, and holds the segments of its node, each once
abbrev pub IsRound : List (NodeId × NodeId) → ℕ → List SegId → Type 0
IsRound ends n round = (0 < length round) × IsPermutation (segments_at n ends) round

-- there are at most so many different lines on all segments together
abbrev pub AreFewLines : ℕ → List (List LineId) → Type 0
AreFewLines most lines = (known : List LineId) × (length known ≤ most) × All (All (Contains known)) lines

-- the parts fit together
pub record IsConsistent (g : GraphParts) : Type 0 where
  -- one entry a node, and one a segment
  pub place_each : length g.places ≡ length g.kinds
  pub round_each : length g.rounds ≡ length g.kinds
  pub joins_each : length g.joins ≡ length g.kinds
  pub lines_each : length g.lines ≡ length g.ends
  pub few_nodes : length g.kinds ≤ 10000
  pub few_segments : length g.ends ≤ 20000
  pub few_lines : AreFewLines 1000 g.lines
  pub places : All IsNear g.places
  pub ends : All (AreEnds (length g.kinds)) g.ends
  pub lines : All (λ ls. (0 < length ls) × AreRising ls) g.lines
  pub rounds : EachIndex g.rounds (λ n. IsRound g.ends n (slice_index_or g.rounds n []))
  pub sorted : All AreSorted g.joins
  pub joins : EachIndex g.joins (λ n. All (IsJoin g.lines (slice_index_or g.rounds n [])) (slice_index_or g.joins n []))
