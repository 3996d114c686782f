-- The line graph of a network.
use Rattle.std.specs.Prelude.{ℕ, List, map, length, Option, Some, None, slice_get, Result, Ok}
use Rattle.map_base.specs.declared.ids.StationId.{StationId}
use Rattle.map_base.specs.declared.point.Point.{Point}
use Rattle.map_base.specs.declared.limit.Limit.{Limit}
use Rattle.map_base.specs.declared.limit.LimitKind.TheVariants.{Nodes, Segments}
use Rattle.map_base.specs.Limits.{unless_above}
use Rattle.track_net.specs.Nearness.{point_at}
use Rattle.graph_core.specs.declared.parts.NodeKind.{NodeKind}
use Rattle.graph_core.specs.declared.parts.NodeKind.TheVariants.{Station, Junction}
use Rattle.graph_core.specs.declared.parts.GraphParts.{GraphParts}
use Rattle.way_network.specs.declared.way.Way.{Way}
use Rattle.way_network.specs.declared.way.Passage.{Passage}
use Rattle.way_network.specs.Chains.{Network}
use Rattle.way_network.specs.Segments.{nodes_of, segment_chains, ends_of, lines_of, round_of}
use Rattle.way_network.specs.Joins.{joins_at}

-- the network of these ways, over these net points, of which the first are these stations, and of that many lines
abbrev pub network_over : List StationId → List Point → ℕ → List Way → Network
network_over stations points lines ways = record { stations = length stations; points = length points; lines = lines; ways = ways }

-- what stands at a net point: a station, where it is one of the first points, or a junction
abbrev pub kind_of : Option StationId → NodeKind
kind_of None = Junction
kind_of (Some station) = Station station

abbrev pub kind_at : List StationId → ℕ → NodeKind
kind_at stations p = kind_of (slice_get stations p)

-- the graph of a network
abbrev pub graph_over : List StationId → List Point → Network → List Passage → GraphParts
graph_over stations points g passages = record {
  kinds = map (kind_at stations) (nodes_of g);
  places = map (point_at points) (nodes_of g);
  ends = map (ends_of g) (segment_chains points g);
  lines = map (lines_of g) (segment_chains points g);
  rounds = map (round_of points g (segment_chains points g)) (nodes_of g);
  joins = map (joins_at (segment_chains points g) passages g.lines) (nodes_of g);
}

-- the graph, unless it has too many nodes or segments
abbrev pub graph_within : GraphParts → Result GraphParts Limit
graph_within parts = unless_above Nodes (length parts.kinds) (unless_above Segments (length parts.ends) (Ok parts))
