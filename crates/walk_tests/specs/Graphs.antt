-- A small graph.
use Rattle.std.specs.Prelude.{ℕ, ℤ, pos, List, [], ◌∷◌}
use Rattle.map_base.specs.declared.ids.SegId.{SegId}
use Rattle.map_base.specs.declared.ids.LineId.{LineId}
use Rattle.map_base.specs.declared.point.Point.{Point}
use Rattle.graph_core.specs.declared.parts.NodeKind.{NodeKind}
use Rattle.graph_core.specs.declared.parts.NodeKind.TheVariants.{Station}
use Rattle.graph_core.specs.declared.parts.GraphParts.{GraphParts}

abbrev pub station : ℕ → NodeKind
station n = Station (record { 0 = n })

abbrev pub place : ℤ → ℤ → Point
place x y = record { x = x; y = y }

-- segment s alone, and one line
abbrev pub only : ℕ → List SegId
only s = record { 0 = s } ∷ []

abbrev pub only_line : List LineId
only_line = record { 0 = 0 } ∷ []

-- three stations, and one line from the first over the second to the third
abbrev pub row : GraphParts
row = record {
  kinds = station 0 ∷ station 1 ∷ station 2 ∷ [];
  places = place (pos 0) (pos 0) ∷ place (pos 3200) (pos 400) ∷ place (pos 6400) (pos 0) ∷ [];
  ends = (record { 0 = 0 }, record { 0 = 1 }) ∷ (record { 0 = 1 }, record { 0 = 2 }) ∷ [];
  lines = only_line ∷ only_line ∷ [];
  rounds = only 0 ∷ (record { 0 = 0 } ∷ record { 0 = 1 } ∷ []) ∷ only 1 ∷ [];
  joins = [] ∷ (record { e = record { 0 = 0 }; f = record { 0 = 1 }; line = record { 0 = 0 } } ∷ []) ∷ [] ∷ [];
}
