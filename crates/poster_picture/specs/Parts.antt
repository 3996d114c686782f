-- The parts of a poster, one after the other.
use Rattle.std.specs.Prelude.{ℕ, List, [], ◌∷◌, ◌++◌, length, Option}
use Rattle.std.specs.List.{flat_map, range_with_len}
use Rattle.map_base.specs.declared.ids.LineId.{LineId}
use Rattle.eight_sides.specs.declared.frame.Frame.{Frame}
use Rattle.svg_writer.specs.declared.names.Names.{Names}
use Rattle.svg_writer.specs.Picture.{colour_of, kind_at, name_of}
use Rattle.poster_plan.specs.declared.layout.Legend.{Legend}
use Rattle.poster_plan.specs.declared.layout.Printed.{Printed}
use Rattle.poster_plan.specs.declared.plan.Plan.{Plan}
use Rattle.poster_rules.specs.Elements.{Element, Head, Ground, Opens, Closes, OnSegment, BehindOnSegment, Tail, LinesGroup, StationsGroup, NamesGroup, LegendGroup}
use Rattle.poster_rules.specs.Posters.{all_names, legend_elements, node_joins, path_on, segment_elements, station_elements, with_behind, Sheet}

-- line i of n of segment s
abbrev pub line_at : Sheet → ℕ → ℕ → ℕ → LineId → List Element
line_at sheet s n i l =
    with_behind (colour_of sheet.names l) (BehindOnSegment s l.0 (path_on sheet s n i)) (OnSegment s l.0 (path_on sheet s n i) (colour_of sheet.names l) (name_of sheet.names l))

-- all lines, all joins and all stations
abbrev pub all_lines : Sheet → List Element
all_lines sheet = flat_map (segment_elements sheet) (range_with_len 0 (length sheet.graph.ends))

abbrev pub all_joins : Sheet → List Element
all_joins sheet = flat_map (node_joins sheet) (range_with_len 0 (length sheet.graph.kinds))

abbrev pub station_at : Sheet → ℕ → List Element
station_at sheet n = station_elements sheet n (kind_at sheet.graph.kinds n)

abbrev pub all_stations : Sheet → List Element
all_stations sheet = flat_map (station_at sheet) (range_with_len 0 (length sheet.graph.kinds))

-- the head, the ground, the lines and the stations
abbrev pub map_part : Sheet → Frame → List Element
map_part sheet frame =
    Head frame ∷ Ground frame ∷ Opens LinesGroup ∷ (all_lines sheet ++ (all_joins sheet ++ (Closes ∷ Opens StationsGroup ∷ (all_stations sheet ++ Closes ∷ []))))

-- the names
abbrev pub names_part : Sheet → Plan → List Printed → List Element
names_part sheet plan printed = Opens NamesGroup ∷ (all_names sheet plan.marks printed ++ Closes ∷ [])

-- the legend and the end
abbrev pub legend_part : Names → Option Legend → List LineId → List Element
legend_part names legend lines = Opens LegendGroup ∷ (legend_elements names legend lines ++ Closes ∷ Tail ∷ [])
