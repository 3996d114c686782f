-- The text of a line graph as GeoJSON. Coordinates are whole decimetres of the plane.
use Rattle.std.specs.Prelude.{ℕ, ◌+◌, max, ℤ, pos, List, [], ◌∷◌, ◌++◌, length, map, fold, codes, slice_get, unwrap_or}
use Rattle.std.specs.List.{range_with_len}
use Rattle.map_base.specs.declared.ids.LineId.{LineId}
use Rattle.map_base.specs.declared.ids.NodeId.{NodeId}
use Rattle.map_base.specs.declared.ids.SegId.{SegId}
use Rattle.map_base.specs.declared.point.Point.{Point}
use Rattle.graph_core.specs.declared.parts.GraphParts.{GraphParts}
use Rattle.graph_core.specs.declared.parts.Join.{Join}
use Rattle.graph_core.specs.declared.parts.NodeKind.{NodeKind}
use Rattle.graph_core.specs.declared.parts.NodeKind.TheVariants.{Station, Junction}
use Rattle.svg_writer.specs.declared.names.Names.{Names}
use Rattle.hex.specs.Hex.{encode_lower}
use Rattle.svg_writer.specs.Picture.{name_of, colour_of, station_name, ends_at, kind_at, round_at, joins_at, lines_at}
use Rattle.serde_json.specs.Data.{Data, number, unsigned, string, array, object, Members, member, no_members}
use Rattle.serde_json.specs.Find.{of_integer}
use Rattle.serde_json.specs.View.{items_of}
use Rattle.serde_json.specs.Written.{compact_text}

-- ---- values

abbrev pub list_data : List Data → Data
list_data values = array (items_of values)

abbrev pub count_data : ℕ → Data
count_data n = number (unsigned n)

abbrev pub whole_data : ℤ → Data
whole_data z = number (of_integer z)

-- a word that the format has
abbrev pub word : List ℕ → Data
word text = string text

-- the coordinates of a point
abbrev pub point_data : Point → Data
point_data p = list_data (whole_data p.x ∷ whole_data p.y ∷ [])

-- ---- lines

-- the greater of a count and one more than the number of each line
abbrev pub after_lines : ℕ → List LineId → ℕ
after_lines most lines = fold (λ most (l : LineId). max most (l.0 + 1)) most lines

-- how many lines are listed: as many as the greatest number of a line on a segment, and one
abbrev pub lines_listed : List (List LineId) → ℕ
lines_listed lines = fold after_lines 0 lines

-- the importance of a line: 1 where none is given
abbrev pub importance_at : List ℕ → ℕ → ℕ
importance_at importance l = unwrap_or (slice_get importance l) 1

-- a line of this name, this colour and this importance
abbrev pub line_object : List ℕ → List ℕ → ℕ → Data
line_object name colour importance =
    object (member (codes "colour") (string (encode_lower colour))
    (member (codes "importance") (count_data importance) (member (codes "name") (string name) no_members)))

abbrev pub line_data : Names → List ℕ → ℕ → Data
line_data names importance l =
    line_object (name_of names (record { 0 = l })) (colour_of names (record { 0 = l })) (importance_at importance l)

-- ---- features

-- a feature of this geometry and these properties
abbrev pub feature_data : List ℕ → Data → Data → Data
feature_data shape coordinates properties =
    object (member (codes "geometry") (object (member (codes "coordinates") coordinates (member (codes "type") (word shape) no_members)))
    (member (codes "properties") properties (member (codes "type") (word (codes "Feature")) no_members)))

abbrev pub seg_data : SegId → Data
seg_data s = count_data s.0

abbrev pub join_data : Join → Data
join_data j = list_data (count_data j.e.0 ∷ count_data j.f.0 ∷ count_data j.line.0 ∷ [])

abbrev pub line_number : LineId → Data
line_number l = count_data l.0

-- in front of other members the name of a node, which a station alone has
abbrev pub named : Names → NodeKind → Members → Members
named names (Station s) rest = member (codes "name") (string (station_name names s.0)) rest
named names Junction rest = rest

abbrev pub node_properties : Names → NodeKind → List Join → List SegId → Members
node_properties names kind joins round =
    member (codes "joins") (list_data (map join_data joins))
    (named names kind (member (codes "round") (list_data (map seg_data round)) no_members))

-- where a node lies, the origin where there is no such node
abbrev pub point_at : List Point → ℕ → Point
point_at places n = unwrap_or (slice_get places n) (record { x = pos 0; y = pos 0 })

abbrev pub node_data : GraphParts → Names → ℕ → Data
node_data g names n =
    feature_data (codes "Point") (point_data (point_at g.places n)) (object (node_properties names (kind_at g.kinds n) (joins_at g.joins n) (round_at g.rounds n)))

abbrev pub segment_properties : NodeId × NodeId → List LineId → Members
segment_properties ends lines =
    member (codes "ends") (list_data (count_data ends.0.0 ∷ count_data ends.1.0 ∷ []))
    (member (codes "lines") (list_data (map line_number lines)) no_members)

-- a segment, from the place of its lower end to that of its upper end
abbrev pub segment_data : GraphParts → ℕ → Data
segment_data g s =
    feature_data (codes "LineString")
    (list_data (point_data (point_at g.places (ends_at g.ends s).0.0) ∷ point_data (point_at g.places (ends_at g.ends s).1.0) ∷ []))
    (object (segment_properties (ends_at g.ends s) (lines_at g.lines s)))

-- ---- the whole

-- the nodes, then the segments
abbrev pub features_data : GraphParts → Names → List Data
features_data g names =
    map (node_data g names) (range_with_len 0 (length g.kinds)) ++ map (segment_data g) (range_with_len 0 (length g.ends))

abbrev pub lines_data : GraphParts → Names → List ℕ → List Data
lines_data g names importance = map (line_data names importance) (range_with_len 0 (lines_listed g.lines))

abbrev pub graph_data : GraphParts → Names → List ℕ → Data
graph_data g names importance =
    object (member (codes "features") (list_data (features_data g names))
    (member (codes "lines") (list_data (lines_data g names importance))
    (member (codes "type") (word (codes "FeatureCollection")) no_members)))

-- compact, and one line
abbrev pub graph_text : GraphParts → Names → List ℕ → List ℕ
graph_text g names importance = compact_text (graph_data g names importance) ++ 10 ∷ []
