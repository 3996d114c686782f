-- The texts of points and of line graphs.
use Rattle.std.proofs.Common.{◌≡◌, ℕ, pos, neg_ℤ, List, [], ◌∷◌, ◌++◌, codes, refl}
use Rattle.std.specs.Fmt.{digits}
use Rattle.map_base.specs.declared.point.Point.{Point}
use Rattle.transit_feed.specs.declared.station.Station.{Station}
use Rattle.printed_text.specs.Printed.{printed_id, point_line}
use Rattle.graph_core.specs.declared.parts.NodeKind.TheVariants as kinds
use Rattle.graph_core.specs.declared.parts.GraphParts.{GraphParts}
use Rattle.line_graph.specs.Text.{graph_text}

-- a control character of an id becomes U+FFFD, and no other byte changes
printed : printed_id (65 ∷ 9 ∷ 127 ∷ 195 ∷ 164 ∷ []) ≡ 65 ∷ 239 ∷ 191 ∷ 189 ∷ 127 ∷ 195 ∷ 164 ∷ []
printed = refl

abbrev at : ℕ → ℕ → Point
at x y = record { x = pos x; y = pos y }

south : point_line (record { x = pos 0; y = neg_ℤ (pos 112) }) (codes "X") ≡ codes "0 -112 X\n"
unfolding digits
south = refl

abbrev none : GraphParts
none = record { kinds = []; places = []; ends = []; lines = []; rounds = []; joins = [] }

-- a feed without lines
empty : graph_text [] none ≡ codes "graph 0 0\n"
unfolding digits
empty = refl

abbrev station : List ℕ → Station
station id = record { id = id; name = id; lat = pos 0; lon = pos 0 }

-- two lines that part at a junction
abbrev fork : GraphParts
fork = record {
  kinds = kinds.Station (record { 0 = 0 }) ∷ kinds.Station (record { 0 = 1 }) ∷ kinds.Station (record { 0 = 2 }) ∷ kinds.Junction ∷ [];
  places = at 0 0 ∷ at 5000 0 ∷ at 2500 2500 ∷ at 2500 0 ∷ [];
  ends = (record { 0 = 0 }, record { 0 = 3 }) ∷ (record { 0 = 1 }, record { 0 = 3 }) ∷ (record { 0 = 2 }, record { 0 = 3 }) ∷ [];
  lines = (record { 0 = 0 } ∷ record { 0 = 1 } ∷ []) ∷ (record { 0 = 0 } ∷ []) ∷ (record { 0 = 1 } ∷ []) ∷ [];
  rounds = (record { 0 = 0 } ∷ []) ∷ (record { 0 = 1 } ∷ []) ∷ (record { 0 = 2 } ∷ []) ∷ (record { 0 = 2 } ∷ record { 0 = 1 } ∷ record { 0 = 0 } ∷ []) ∷ [];
  joins = [] ∷ [] ∷ [] ∷ (record { e = record { 0 = 0 }; f = record { 0 = 1 }; line = record { 0 = 0 } } ∷ record { e = record { 0 = 0 }; f = record { 0 = 2 }; line = record { 0 = 1 } } ∷ []) ∷ [];
}

forked : graph_text (station (codes "X") ∷ station (codes "Y") ∷ station (codes "Z") ∷ []) fork ≡
    codes "graph 4 3\nnode 0 station 0 0 X\nnode 1 station 5000 0 Y\nnode 2 station 2500 2500 Z\nnode 3 junction 2500 0\n"
    ++ codes "segment 0 0 3 0 1\nsegment 1 1 3 0\nsegment 2 2 3 1\nround 0 0\nround 1 1\nround 2 2\nround 3 2 1 0\njoin 3 0 1 0\njoin 3 0 2 1\n"
unfolding digits
forked = refl
