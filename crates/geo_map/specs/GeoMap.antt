-- The geographic map: line orders over the courses of segments, as they lie in the plane.
use Rattle.std.specs.Prelude.{ℕ, ◌≤◌, ℤ, pos, ◌-ℤ◌, unsigned_abs, List, [], map, fold, slice_get, unwrap_or, None, All}
use Rattle.std.specs.List.{flat_map}
use Rattle.map_base.specs.declared.ids.LineId.{LineId}
use Rattle.map_base.specs.declared.point.Point.{Point}
use Rattle.graph_core.specs.declared.parts.GraphParts.{GraphParts}
use Rattle.line_offsets.specs.declared.corner.Corner.{Corner}
use Rattle.geo_lines.specs.Shifts.{width_of}
use Rattle.geo_lines.specs.Courses.{IsCourse, path_start, path_end, shifted_path}
use Rattle.svg_writer.specs.declared.bounds.Bounds.{Bounds}
use Rattle.svg_writer.specs.declared.names.Names.{Names}
use Rattle.svg_writer.specs.declared.style.Style.{Style}
use Rattle.svg_writer.specs.Courses.{Courses}
use Rattle.svg_writer.specs.Elements.{texts}
use Rattle.svg_writer.specs.Picture.{bounds_at, bounds_with_corner, origin, elements}

-- how a geographic map looks, on which a unit is a decimetre
abbrev pub plane_style : Style
plane_style = record { margin = 1000; stroke = 50; rim = 10; radius_each = 30; radius_more = 20; gap = 40; font = 200 }

-- a point of the plane as it is drawn: north is above
abbrev pub drawn : Point → Corner
drawn p = record { x = p.x; y = pos 0 -ℤ p.y }

-- the course of segment s, and where node n lies
abbrev pub course_at : List (List Point) → ℕ → List Point
course_at lines s = unwrap_or (slice_get lines s) []

abbrev pub place_at : List Point → ℕ → Point
place_at places n = unwrap_or (slice_get places n) (record { x = pos 0; y = pos 0 })

-- lines beside the courses of segments
abbrev pub plane_courses : GraphParts → List (List Point) → Courses
plane_courses g lines = record {
  path = λ s k. map drawn (shifted_path k (course_at lines s));
  start = λ s k. drawn (path_start (width_of k) (course_at lines s));
  end = λ s k. drawn (path_end (width_of k) (course_at lines s));
  centre = λ n. drawn (place_at g.places n);
}

-- the bounds of all points of courses, those of the origin where there is none
abbrev pub plane_bounds : List (List Point) → Bounds
plane_bounds lines = unwrap_or (fold bounds_with_corner None (flat_map (map drawn) lines)) (bounds_at origin)

-- lines this near to the middle can be drawn beside courses
pub record IsNearMiddle (lines : List (List Point)) (k : ℤ) : Type 0 where
  pub courses : All IsCourse lines
  pub near : unsigned_abs k ≤ 10000

-- the text of the geographic map of a line graph, with a course and an order for each of its segments
abbrev pub geographic_text : Names → GraphParts → List (List Point) → List (List LineId) → List ℕ
geographic_text names g lines orders = texts plane_style (elements plane_style names g (plane_courses g lines) orders (plane_bounds lines))
