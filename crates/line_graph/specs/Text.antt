-- The text of a line graph: a line for the counts, for each node, for each segment, for each round and for each join.
use Rattle.std.specs.Prelude.{ℕ, ◌<◌, pos, List, [], ◌∷◌, ◌++◌, length, codes, slice_get, unwrap_or, Option, Some, None}
use Rattle.std.specs.List.{flat_map, range_with_len}
use Rattle.std.specs.Fmt.{decimal}
use Rattle.map_base.specs.declared.ids.NodeId.{NodeId}
use Rattle.map_base.specs.declared.ids.SegId.{SegId}
use Rattle.map_base.specs.declared.ids.LineId.{LineId}
use Rattle.map_base.specs.declared.point.Point.{Point}
use Rattle.graph_core.specs.declared.parts.NodeKind.{NodeKind}
use Rattle.graph_core.specs.declared.parts.NodeKind.TheVariants.{Station, Junction}
use Rattle.graph_core.specs.declared.parts.GraphParts.{GraphParts}
use Rattle.graph_core.specs.declared.parts.Join.{Join}
use Rattle.transit_feed.specs.declared.station.Station as feed
use Rattle.printed_text.specs.Printed.{printed_point, point_line}

-- a space and a number
abbrev pub and_number : ℕ → List ℕ
and_number n = 32 ∷ decimal n

-- the id of a station that is there
abbrev pub id_of : Option feed.Station → List ℕ
id_of None = []
id_of (Some station) = station.id

-- what stands behind a node's number: `station X Y ID`, or `junction X Y`
abbrev pub node_text : List feed.Station → NodeKind → Point → List ℕ
node_text stations (Station s) place = codes " station " ++ point_line place (id_of (slice_get stations s.0))
node_text stations Junction place = codes " junction " ++ (printed_point place ++ 10 ∷ [])

-- what node n is
abbrev pub kind_at : List NodeKind → ℕ → NodeKind
kind_at kinds n = unwrap_or (slice_get kinds n) Junction

-- where node n lies
abbrev pub place_at : List Point → ℕ → Point
place_at places n = unwrap_or (slice_get places n) (record { x = pos 0; y = pos 0 })

-- `node N station X Y ID` or `node N junction X Y`
abbrev pub node_line : List feed.Station → GraphParts → ℕ → List ℕ
node_line stations g n = codes "node" ++ (and_number n ++ node_text stations (kind_at g.kinds n) (place_at g.places n))

-- the ends of segment s
abbrev pub ends_at : List (NodeId × NodeId) → ℕ → NodeId × NodeId
ends_at ends s = unwrap_or (slice_get ends s) (record { 0 = 0 }, record { 0 = 0 })

-- the numbers of the lower and the upper node
abbrev pub ends_text : NodeId × NodeId → List ℕ
ends_text ends = and_number ends.0.0 ++ and_number ends.1.0

-- `segment S LOW UP LINE ..`
abbrev pub segment_line : GraphParts → ℕ → List ℕ
segment_line g s =
    codes "segment" ++ (and_number s ++ (ends_text (ends_at g.ends s)
    ++ (flat_map (λ (l : LineId). and_number l.0) (unwrap_or (slice_get g.lines s) []) ++ 10 ∷ [])))

-- `round N SEG ..`
abbrev pub round_line : GraphParts → ℕ → List ℕ
round_line g n = codes "round" ++ (and_number n ++ (flat_map (λ (s : SegId). and_number s.0) (unwrap_or (slice_get g.rounds n) []) ++ 10 ∷ []))

-- `join N E F LINE`
abbrev pub join_line : ℕ → Join → List ℕ
join_line n join = codes "join" ++ (and_number n ++ (and_number join.e.0 ++ (and_number join.f.0 ++ (and_number join.line.0 ++ 10 ∷ []))))

-- the joins of node n
abbrev pub join_lines : GraphParts → ℕ → List ℕ
join_lines g n = flat_map (join_line n) (unwrap_or (slice_get g.joins n) [])

-- the first line: `graph NODES SEGMENTS`
abbrev pub counts_line : GraphParts → List ℕ
counts_line g = codes "graph" ++ (and_number (length g.kinds) ++ (and_number (length g.ends) ++ 10 ∷ []))

-- the lines of all nodes, of all segments, of all rounds and of all joins
abbrev pub all_nodes : List feed.Station → GraphParts → List ℕ
all_nodes stations g = flat_map (node_line stations g) (range_with_len 0 (length g.kinds))

abbrev pub all_segments : GraphParts → List ℕ
all_segments g = flat_map (segment_line g) (range_with_len 0 (length g.ends))

abbrev pub all_rounds : GraphParts → List ℕ
all_rounds g = flat_map (round_line g) (range_with_len 0 (length g.kinds))

abbrev pub all_joins : GraphParts → List ℕ
all_joins g = flat_map (join_lines g) (range_with_len 0 (length g.kinds))

-- the text of a graph over stations
abbrev pub graph_text : List feed.Station → GraphParts → List ℕ
graph_text stations g = counts_line g ++ (all_nodes stations g ++ (all_segments g ++ (all_rounds g ++ all_joins g)))

-- a node that is a station is one of these
abbrev pub IsKnown : List feed.Station → NodeKind → Type 0
IsKnown stations (Station s) = s.0 < length stations
IsKnown stations Junction = Unit {0}
