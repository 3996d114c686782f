-- What stands on a poster.
use Rattle.std.specs.Prelude.{ℕ, ◌+◌, Bool, true, false, List, [], ◌∷◌, length}
use Rattle.map_base.specs.declared.ids.LineId.{LineId}
use Rattle.graph_core.specs.declared.parts.NodeKind.{NodeKind}
use Rattle.graph_core.specs.declared.parts.NodeKind.TheVariants as kind
use Rattle.svg_writer.specs.Courses.{order_at}
use Rattle.svg_writer.specs.Picture.{colour_of, name_of, station_name}
use Rattle.poster_rules.specs.Elements.{Element, OnSegment, Station}
use Rattle.poster_rules.specs.Posters.{path_on, Sheet}
use Rattle.poster_rules.specs.Stations.{callers_at}

-- an element shows a line on a segment, or a station
abbrev pub is_shown : Element → Bool
is_shown (OnSegment seg line path colour name) = true
is_shown (Station node lines name) = true
is_shown element = false

-- the paths of lines on segment s from place i on, of n
abbrev pub paths_from : Sheet → ℕ → ℕ → ℕ → List LineId → List Element
paths_from sheet s n i [] = []
paths_from sheet s n i (l ∷ ls) =
    OnSegment s l.0 (path_on sheet s n i) (colour_of sheet.names l) (name_of sheet.names l) ∷ paths_from sheet s n (i + 1) ls

-- those of segment s, one for each place of its order
abbrev pub paths_of : Sheet → ℕ → List Element
paths_of sheet s = paths_from sheet s (length (order_at sheet.orders s)) 0 (order_at sheet.orders s)

-- the group of a node of this kind, where that is a station: with the lines that call there, and its name
abbrev pub group_of : Sheet → ℕ → NodeKind → List Element
group_of sheet n (kind.Station s) = Station n (callers_at sheet.callers n) (station_name sheet.names s.0) ∷ []
group_of sheet n kind.Junction = []
