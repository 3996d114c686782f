-- The picture of a drawn line graph: its elements in order.
use Rattle.std.specs.Prelude.{ℕ, ◌+◌, ◌*◌, ◌==◌, ◌&&◌, Bool, ℤ, pos, ◌+ℤ◌, ◌-ℤ◌, max, List, [], ◌∷◌, ◌++◌, length, fold, if◌then◌else◌, slice_get, unwrap_or, Option, Some, None}
use Rattle.std.specs.List.{flat_map, range_with_len, position_or_len}
use Rattle.std.specs.Int.{int_min, int_max}
use Rattle.std.specs.Ordering.{int_eq}
use Rattle.map_base.specs.declared.ids.NodeId.{NodeId}
use Rattle.map_base.specs.declared.ids.SegId.{SegId}
use Rattle.map_base.specs.declared.ids.LineId.{LineId}
use Rattle.graph_core.specs.declared.parts.NodeKind.{NodeKind}
use Rattle.graph_core.specs.declared.parts.NodeKind.TheVariants.{Station, Junction}
use Rattle.graph_core.specs.declared.parts.GraphParts.{GraphParts}
use Rattle.graph_core.specs.declared.parts.Join.{Join}
use Rattle.octi_grid.specs.declared.point.GridPoint.{GridPoint}
use Rattle.octi_grid.specs.Walks.{PlainWalk, end_point, points_of}
use Rattle.line_offsets.specs.declared.corner.Corner.{Corner}
use Rattle.line_offsets.specs.Shifts.{drawn}
use Rattle.line_offsets.specs.Paths.{line_path, path_start, path_end}
use Rattle.svg_writer.specs.declared.bounds.Bounds.{Bounds}
use Rattle.svg_writer.specs.declared.names.Names.{Names}
use Rattle.svg_writer.specs.declared.style.Style.{Style}
use Rattle.svg_writer.specs.Styles.{grid_style}
use Rattle.svg_writer.specs.Courses.{Courses, order_at, gauge}
use Rattle.svg_writer.specs.Elements.{Element, Head, OnSegment, AtNode, Marker, Label, Tail, element_text, texts}

-- ---- the bounds

abbrev pub bounds_at : Corner → Bounds
bounds_at c = record { left = c.x; right = c.x; top = c.y; bottom = c.y }

-- bounds, widened to hold a point
abbrev pub widened : Bounds → Corner → Bounds
widened b c = record { left = int_min b.left c.x; right = int_max b.right c.x; top = int_min b.top c.y; bottom = int_max b.bottom c.y }

abbrev pub bounds_with_corner : Option Bounds → Corner → Option Bounds
bounds_with_corner None c = Some (bounds_at c)
bounds_with_corner (Some b) c = Some (widened b c)

abbrev pub bounds_with : Option Bounds → GridPoint → Option Bounds
bounds_with bounds p = bounds_with_corner bounds (drawn p)

abbrev pub origin : Corner
origin = record { x = pos 0; y = pos 0 }

-- the bounds of all grid points of walks, those of the origin where there is none
abbrev pub bounds_of : List PlainWalk → Bounds
bounds_of walks = unwrap_or (fold bounds_with None (flat_map points_of walks)) (bounds_at origin)

-- ---- what there is of each thing

abbrev pub walk_at : List PlainWalk → ℕ → PlainWalk
walk_at walks s = unwrap_or (slice_get walks s) (record { start = record { x = pos 0; y = pos 0 }; steps = [] })

abbrev pub ends_at : List (NodeId × NodeId) → ℕ → NodeId × NodeId
ends_at ends s = unwrap_or (slice_get ends s) (record { 0 = 0 }, record { 0 = 0 })

abbrev pub kind_at : List NodeKind → ℕ → NodeKind
kind_at kinds n = unwrap_or (slice_get kinds n) Junction

abbrev pub round_at : List (List SegId) → ℕ → List SegId
round_at rounds n = unwrap_or (slice_get rounds n) []

abbrev pub joins_at : List (List Join) → ℕ → List Join
joins_at joins n = unwrap_or (slice_get joins n) []

abbrev pub lines_at : List (List LineId) → ℕ → List LineId
lines_at lines s = unwrap_or (slice_get lines s) []

-- the name and the colour of a line
abbrev pub name_of : Names → LineId → List ℕ
name_of names l = (unwrap_or (slice_get names.lines l.0) ([], [])).0

abbrev pub colour_of : Names → LineId → List ℕ
colour_of names l = (unwrap_or (slice_get names.lines l.0) ([], [])).1

-- the name of a station
abbrev pub station_name : Names → ℕ → List ℕ
station_name names s = unwrap_or (slice_get names.stations s) []

-- ---- lines

-- the lines of a segment from number i on, of n
abbrev pub line_elements : Names → Courses → ℕ → ℕ → ℕ → List LineId → List Element
line_elements names courses s n i [] = []
line_elements names courses s n i (l ∷ rest) =
    OnSegment s l.0 (courses.path s (gauge n i)) (colour_of names l) (name_of names l) ∷ line_elements names courses s n (i + 1) rest

-- what reads past an order fall back on
abbrev pub no_line : LineId
no_line = record { 0 = 0 }

-- the text of line i of n of a segment
abbrev pub line_text : Style → Names → Courses → ℕ → ℕ → ℕ → LineId → List ℕ
line_text style names courses s n i l = element_text style (OnSegment s l.0 (courses.path s (gauge n i)) (colour_of names l) (name_of names l))

-- the lines of segment s
abbrev pub segment_elements : Names → Courses → List (List LineId) → ℕ → List Element
segment_elements names courses orders s = line_elements names courses s (length (order_at orders s)) 0 (order_at orders s)

-- ---- joins

-- the number of a line in an order
abbrev pub place_in : List LineId → LineId → ℕ
place_in order l = position_or_len (λ (a : LineId). a.0 == l.0) order

-- where a line that stands k places beside segment s, which has these ends, ends at node n
abbrev pub end_at : Courses → ℕ → NodeId × NodeId → ℕ → ℤ → Corner
end_at courses n ends s k = if ends.0.0 == n then courses.start s k else courses.end s k

-- where a line ends on a segment at node n
abbrev pub line_end : GraphParts → Courses → List (List LineId) → ℕ → SegId → LineId → Corner
line_end g courses orders n s l =
    end_at courses n (ends_at g.ends s.0) s.0 (gauge (length (order_at orders s.0)) (place_in (order_at orders s.0) l))

abbrev pub are_one : Corner → Corner → Bool
are_one a b = int_eq a.x b.x && int_eq a.y b.y

-- a line between its two ends at node n, where they differ
abbrev pub between : ℕ → LineId → Corner → Corner → List ℕ → List Element
between n l a b colour = if are_one a b then [] else AtNode n l.0 a b colour ∷ []

abbrev pub join_elements : Names → GraphParts → Courses → List (List LineId) → ℕ → Join → List Element
join_elements names g courses orders n j =
    between n j.line (line_end g courses orders n j.e j.line) (line_end g courses orders n j.f j.line) (colour_of names j.line)

-- the joins of node n
abbrev pub node_joins : Names → GraphParts → Courses → List (List LineId) → ℕ → List Element
node_joins names g courses orders n = flat_map (join_elements names g courses orders n) (joins_at g.joins n)

-- ---- stations

-- where a walk puts node n, an end of its segment
abbrev pub put_at : ℕ → NodeId × NodeId → PlainWalk → GridPoint
put_at n ends walk = if ends.0.0 == n then walk.start else end_point walk

-- the first segment of a round
abbrev pub first_of : List SegId → ℕ
first_of [] = 0
first_of (s ∷ rest) = s.0

-- where node n is drawn: where the walk of the first segment of its round puts it. In a legal drawing all do.
abbrev pub centre_of : GraphParts → List PlainWalk → ℕ → Corner
centre_of g walks n = drawn (put_at n (ends_at g.ends (first_of (round_at g.rounds n))) (walk_at walks (first_of (round_at g.rounds n))))

-- how many lines the segment with the most has, of a round
abbrev pub most_lines : List (List LineId) → List SegId → ℕ
most_lines lines round = fold (λ most (s : SegId). max most (length (lines_at lines s.0))) 0 round

-- the radius of the marker of node n
abbrev pub radius_in : Style → GraphParts → ℕ → ℕ
radius_in style g n = style.radius_each * most_lines g.lines (round_at g.rounds n) + style.radius_more

-- the radius of the marker of node n in a map on the grid
abbrev pub radius_of : GraphParts → ℕ → ℕ
radius_of g n = radius_in grid_style g n

-- the marker of node n, where it is a station
abbrev pub marker : Style → GraphParts → Courses → ℕ → NodeKind → List Element
marker style g courses n (Station s) = Marker (courses.centre n) (radius_in style g n) ∷ []
marker style g courses n Junction = []

-- to the right of a marker, and above it, with a gap between
abbrev pub beside : ℕ → Corner → ℕ → Corner
beside gap c radius = record { x = c.x +ℤ pos (radius + gap); y = c.y -ℤ pos (radius + gap) }

-- the name of node n, where it is a station
abbrev pub label : Style → Names → GraphParts → Courses → ℕ → NodeKind → List Element
label style names g courses n (Station s) = Label (beside style.gap (courses.centre n) (radius_in style g n)) (station_name names s.0) ∷ []
label style names g courses n Junction = []

-- ---- the whole

abbrev pub all_lines : Names → GraphParts → Courses → List (List LineId) → List Element
all_lines names g courses orders = flat_map (segment_elements names courses orders) (range_with_len 0 (length g.ends))

abbrev pub all_joins : Names → GraphParts → Courses → List (List LineId) → List Element
all_joins names g courses orders = flat_map (node_joins names g courses orders) (range_with_len 0 (length g.kinds))

abbrev pub all_markers : Style → GraphParts → Courses → List Element
all_markers style g courses = flat_map (λ n. marker style g courses n (kind_at g.kinds n)) (range_with_len 0 (length g.kinds))

abbrev pub all_labels : Style → Names → GraphParts → Courses → List Element
all_labels style names g courses = flat_map (λ n. label style names g courses n (kind_at g.kinds n)) (range_with_len 0 (length g.kinds))

-- the place at which the name of node n begins, where there is one
abbrev pub spot_at : List (Option Corner) → ℕ → Option Corner
spot_at spots n = unwrap_or (slice_get spots n) None

-- the name of a node at a place, where it is a station and there is one
abbrev pub placed_label : Names → NodeKind → Option Corner → List Element
placed_label names (Station s) (Some spot) = Label spot (station_name names s.0) ∷ []
placed_label names (Station s) None = []
placed_label names Junction spot = []

-- the names of stations at these places, one for each node
abbrev pub placed_labels : Names → GraphParts → List (Option Corner) → List Element
placed_labels names g spots = flat_map (λ n. placed_label names (kind_at g.kinds n) (spot_at spots n)) (range_with_len 0 (length g.kinds))

-- The head; each line of each segment, in its order; each line from segment to segment at each node, where it is not
-- there already; the markers of stations, and these names; the end.
abbrev pub elements_with : Style → Names → GraphParts → Courses → List (List LineId) → Bounds → List Element → List Element
elements_with style names g courses orders frame labels =
    Head frame ∷ (all_lines names g courses orders ++ (all_joins names g courses orders ++ (all_markers style g courses ++ (labels ++ Tail ∷ []))))

-- the elements of a picture in which each name stands beside its marker
abbrev pub elements : Style → Names → GraphParts → Courses → List (List LineId) → Bounds → List Element
elements style names g courses orders frame = elements_with style names g courses orders frame (all_labels style names g courses)

-- ---- maps on the grid

-- lines beside walks on the grid
abbrev pub grid_courses : GraphParts → List PlainWalk → Courses
grid_courses g walks = record {
  path = λ s k. line_path (walk_at walks s) k;
  start = λ s k. path_start (walk_at walks s) k;
  end = λ s k. path_end (walk_at walks s) k;
  centre = λ n. centre_of g walks n;
}

-- the picture's text
abbrev pub picture_text : Names → GraphParts → List PlainWalk → List (List LineId) → List ℕ
picture_text names g walks orders = texts grid_style (elements grid_style names g (grid_courses g walks) orders (bounds_of walks))

-- the picture's text where the head shows these bounds, and the names of stations stand at these places
abbrev pub placed_text : Names → GraphParts → List PlainWalk → List (List LineId) → Bounds → List (Option Corner) → List ℕ
placed_text names g walks orders frame spots =
    texts grid_style (elements_with grid_style names g (grid_courses g walks) orders frame (placed_labels names g spots))
