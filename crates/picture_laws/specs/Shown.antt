-- What stands in a picture.
use Rattle.std.specs.Prelude.{ℕ, ◌==◌, ◌&&◌, Bool, true, false, List, length, filter}
use Rattle.std.specs.List.{range_with_len}
use Rattle.map_base.specs.declared.ids.LineId.{LineId}
use Rattle.graph_core.specs.declared.parts.GraphParts.{GraphParts}
use Rattle.graph_core.specs.declared.parts.NodeKind.{NodeKind}
use Rattle.graph_core.specs.declared.parts.NodeKind.TheVariants.{Station, Junction}
use Rattle.svg_writer.specs.declared.names.Names.{Names}
use Rattle.svg_writer.specs.declared.style.Style.{Style}
use Rattle.svg_writer.specs.Courses.{Courses}
use Rattle.svg_writer.specs.Elements.{Element, OnSegment, Marker, Label}
use Rattle.svg_writer.specs.Picture.{beside, kind_at, radius_in, station_name}

-- the element is the path of a line on a segment
abbrev pub is_path_of : ℕ → LineId → Element → Bool
is_path_of s l (OnSegment seg line path colour name) = seg == s && line == l.0
is_path_of s l element = false

-- the element is the circle of a station, or its name
abbrev pub is_marker : Element → Bool
is_marker (Marker centre radius) = true
is_marker element = false

abbrev pub is_label : Element → Bool
is_label (Label place name) = true
is_label element = false

abbrev pub is_station : NodeKind → Bool
is_station (Station s) = true
is_station Junction = false

-- the nodes that are stations, in order
abbrev pub stations_of : GraphParts → List ℕ
stations_of g = filter (λ n. is_station (kind_at g.kinds n)) (range_with_len 0 (length g.kinds))

-- the number of the station that a node is
abbrev pub station_of : NodeKind → ℕ
station_of (Station s) = s.0
station_of Junction = 0

-- the circle of a node, and its name beside it
abbrev pub marker_at : Style → GraphParts → Courses → ℕ → Element
marker_at style g courses n = Marker (courses.centre n) (radius_in style g n)

abbrev pub label_at : Style → Names → GraphParts → Courses → ℕ → Element
label_at style names g courses n =
    Label (beside style.gap (courses.centre n) (radius_in style g n)) (station_name names (station_of (kind_at g.kinds n)))
