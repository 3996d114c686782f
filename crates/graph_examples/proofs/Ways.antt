-- The line graph of two lines that part at a junction, worked out.
use Rattle.std.proofs.Common.{◌≡◌, ℕ, pos, List, [], ◌∷◌, refl}
use Rattle.std.specs.List.{flat_map}
use Rattle.map_base.specs.declared.point.Point.{Point}
use Rattle.map_base.specs.declared.ids.StationId.{StationId}
use Rattle.graph_core.specs.declared.parts.NodeKind.TheVariants.{Station, Junction}
use Rattle.graph_core.specs.declared.parts.GraphParts.{GraphParts}
use Rattle.way_network.specs.declared.way.Way.{Way}
use Rattle.way_network.specs.Chains.{Network}
use Rattle.way_network.specs.Joins.{passages_of_way}
use Rattle.way_network.specs.Graphs.{graph_over}

abbrev at : ℕ → ℕ → Point
at x y = record { x = pos x; y = pos y }

abbrev station : ℕ → StationId
station n = record { 0 = n }

abbrev points : List Point
points = at 0 0 ∷ at 5000 0 ∷ at 2500 2500 ∷ at 1000 0 ∷ at 2500 0 ∷ at 4000 0 ∷ at 2500 1000 ∷ []

abbrev ways : List Way
ways = record { line = record { 0 = 0 }; points = 0 ∷ 3 ∷ 4 ∷ 5 ∷ 1 ∷ [] } ∷ record { line = record { 0 = 1 }; points = 0 ∷ 3 ∷ 4 ∷ 6 ∷ 2 ∷ [] } ∷ []

abbrev network : Network
network = record { stations = 3; points = 7; lines = 2; ways = ways }

abbrev graph : GraphParts
graph = graph_over (station 0 ∷ station 1 ∷ station 2 ∷ []) points network (flat_map passages_of_way ways)

abbrev wanted : GraphParts
wanted = record {
  kinds = Station (record { 0 = 0 }) ∷ Station (record { 0 = 1 }) ∷ Station (record { 0 = 2 }) ∷ Junction ∷ [];
  places = at 0 0 ∷ at 5000 0 ∷ at 2500 2500 ∷ at 2500 0 ∷ [];
  ends = (record { 0 = 0 }, record { 0 = 3 }) ∷ (record { 0 = 1 }, record { 0 = 3 }) ∷ (record { 0 = 2 }, record { 0 = 3 }) ∷ [];
  lines = (record { 0 = 0 } ∷ record { 0 = 1 } ∷ []) ∷ (record { 0 = 0 } ∷ []) ∷ (record { 0 = 1 } ∷ []) ∷ [];
  rounds = (record { 0 = 0 } ∷ []) ∷ (record { 0 = 1 } ∷ []) ∷ (record { 0 = 2 } ∷ []) ∷ (record { 0 = 2 } ∷ record { 0 = 1 } ∷ record { 0 = 0 } ∷ []) ∷ [];
  joins = [] ∷ [] ∷ [] ∷ (record { e = record { 0 = 0 }; f = record { 0 = 1 }; line = record { 0 = 0 } } ∷ record { e = record { 0 = 0 }; f = record { 0 = 2 }; line = record { 0 = 1 } } ∷ []) ∷ [];
}

kinds-worked : graph.kinds ≡ wanted.kinds
kinds-worked = refl

places-worked : graph.places ≡ wanted.places
places-worked = refl

ends-worked : graph.ends ≡ wanted.ends
ends-worked = refl

lines-worked : graph.lines ≡ wanted.lines
lines-worked = refl

rounds-worked : graph.rounds ≡ wanted.rounds
rounds-worked = refl

joins-worked : graph.joins ≡ wanted.joins
joins-worked = refl

-- Two lines between the same two stations, the one by the north: two segments.
abbrev two_ways : List Way
two_ways = record { line = record { 0 = 0 }; points = 0 ∷ 1 ∷ [] } ∷ record { line = record { 0 = 1 }; points = 0 ∷ 2 ∷ 3 ∷ 1 ∷ [] } ∷ []

abbrev two_points : List Point
two_points = at 0 0 ∷ at 5000 0 ∷ at 0 400 ∷ at 5000 400 ∷ []

abbrev two_segments : GraphParts
two_segments = graph_over (station 0 ∷ station 1 ∷ []) two_points (record { stations = 2; points = 4; lines = 2; ways = two_ways }) (flat_map passages_of_way two_ways)

two-lines-worked : two_segments.lines ≡ (record { 0 = 1 } ∷ []) ∷ (record { 0 = 0 } ∷ []) ∷ []
two-lines-worked = refl

two-rounds-worked : two_segments.rounds ≡ (record { 0 = 0 } ∷ record { 0 = 1 } ∷ []) ∷ (record { 0 = 0 } ∷ record { 0 = 1 } ∷ []) ∷ []
two-rounds-worked = refl

-- A line that ends at a station, and one that goes on there: only the second joins the two segments.
abbrev row_ways : List Way
row_ways = record { line = record { 0 = 0 }; points = 0 ∷ 1 ∷ [] } ∷ record { line = record { 0 = 1 }; points = 0 ∷ 1 ∷ [] } ∷ record { line = record { 0 = 1 }; points = 1 ∷ 2 ∷ [] } ∷ []

abbrev row_of_three : GraphParts
row_of_three = graph_over (station 0 ∷ station 1 ∷ station 2 ∷ []) (at 0 0 ∷ at 5000 0 ∷ at 9000 0 ∷ [])
    (record { stations = 3; points = 3; lines = 2; ways = row_ways })
    (record { line = record { 0 = 0 }; at = 1; from = 0; to = 0 } ∷ record { line = record { 0 = 1 }; at = 1; from = 0; to = 2 } ∷ [])

row-lines-worked : row_of_three.lines ≡ (record { 0 = 0 } ∷ record { 0 = 1 } ∷ []) ∷ (record { 0 = 1 } ∷ []) ∷ []
row-lines-worked = refl

row-rounds-worked : row_of_three.rounds ≡ (record { 0 = 0 } ∷ []) ∷ (record { 0 = 1 } ∷ record { 0 = 0 } ∷ []) ∷ (record { 0 = 1 } ∷ []) ∷ []
row-rounds-worked = refl

row-joins-worked : row_of_three.joins ≡ [] ∷ (record { e = record { 0 = 0 }; f = record { 0 = 1 }; line = record { 0 = 1 } } ∷ []) ∷ [] ∷ []
row-joins-worked = refl
