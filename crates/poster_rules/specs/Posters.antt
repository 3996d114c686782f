-- The poster of a drawn line graph: its elements in order. The lines that call at nodes are told by lists, one for each
-- node, each rising.
use Rattle.std.specs.Prelude.{ℕ, ◌+◌, ◌==◌, ◌&&◌, not, Bool, nat_lt, ℤ, pos, ◌+ℤ◌, List, [], ◌∷◌, ◌++◌, length, map, fold, if◌then◌else◌, Option, Some, None, unwrap_or}
use Rattle.std.specs.List.{find, flat_map, insert, list_any, position_or_len, range_with_len}
use Rattle.map_base.specs.declared.ids.LineId.{LineId}
use Rattle.map_base.specs.declared.ids.SegId.{SegId}
use Rattle.graph_core.specs.declared.parts.NodeKind.{NodeKind}
use Rattle.graph_core.specs.declared.parts.NodeKind.TheVariants as kind
use Rattle.graph_core.specs.declared.parts.GraphParts.{GraphParts}
use Rattle.graph_core.specs.declared.parts.Join.{Join}
use Rattle.octi_grid.specs.Walks.{PlainWalk}
use Rattle.line_offsets.specs.declared.corner.Corner.{Corner}
use Rattle.line_offsets.specs.Paths.{line_path_at, path_end_at, path_start_at}
use Rattle.svg_writer.specs.declared.names.Names.{Names}
use Rattle.svg_writer.specs.Courses.{gauge, order_at}
use Rattle.svg_writer.specs.Picture.{are_one, colour_of, ends_at, joins_at, kind_at, lines_at, name_of, place_in, round_at, station_name, walk_at}
use Rattle.name_widths.specs.Colours.{is_faint, is_pale}
use Rattle.poster_plan.specs.declared.layout.Legend.{Legend}
use Rattle.poster_plan.specs.declared.layout.Printed.{Printed}
use Rattle.poster_plan.specs.declared.layout.Step.{Step}
use Rattle.poster_plan.specs.declared.layout.Step.TheVariants.{Full, Small, Over}
use Rattle.poster_plan.specs.declared.plan.Mark.{Mark}
use Rattle.poster_plan.specs.declared.plan.Plan.{Plan}
use Rattle.poster_plan.specs.Signs.{sign_of}
use Rattle.poster_plan.specs.Places.{text_spot}
use Rattle.poster_plan.specs.Placing.{mark_numbered, printed_names}
use Rattle.poster_plan.specs.Pitches.{frame_with, pitch_of}
use Rattle.poster_plan.specs.Legends.{frame_beside, legend_of, row_at}
use Rattle.poster_rules.specs.Stations.{callers_at, ending, has_line, is_interchange}
use Rattle.poster_rules.specs.Texts.{all_rests, printed_at}
use Rattle.poster_rules.specs.Plans.{lines_shown, plan_of, widest}
use Rattle.poster_rules.specs.Elements.{Element, Ending, Head, Ground, Opens, Closes, OnSegment, BehindOnSegment, AtNode, BehindAtNode, Station, Stroke, Name, RimOfName, RowName, Tail, LinesGroup, StationsGroup, NamesGroup, LegendGroup, black, dark, texts, white}

-- what is drawn, and how: a line graph with the names and colours of its stations and lines, the walks of its segments, the
-- orders of their lines, the lines that call at its nodes, and how many units one grid step is
pub record Sheet : Type 0 where
  pub names : Names
  pub graph : GraphParts
  pub walks : List PlainWalk
  pub orders : List (List LineId)
  pub callers : List (List LineId)
  pub pitch : ℕ

-- ---- lines

-- an element, and one behind it where the colour is pale
abbrev pub with_behind : List ℕ → Element → Element → List Element
with_behind colour behind front = if is_pale colour then behind ∷ front ∷ [] else front ∷ []

-- the path of line i of n of segment s
abbrev pub path_on : Sheet → ℕ → ℕ → ℕ → List Corner
path_on sheet s n i = line_path_at sheet.pitch (walk_at sheet.walks s) (gauge n i)

-- the lines of a segment from number i on, of n
abbrev pub line_elements : Sheet → ℕ → ℕ → ℕ → List LineId → List Element
line_elements sheet s n i [] = []
line_elements sheet s n i (l ∷ rest) =
    with_behind (colour_of sheet.names l) (BehindOnSegment s l.0 (path_on sheet s n i)) (OnSegment s l.0 (path_on sheet s n i) (colour_of sheet.names l) (name_of sheet.names l))
    ++ line_elements sheet s n (i + 1) rest

-- the lines of segment s
abbrev pub segment_elements : Sheet → ℕ → List Element
segment_elements sheet s = line_elements sheet s (length (order_at sheet.orders s)) 0 (order_at sheet.orders s)

-- how many places a line stands to the right of the middle of segment s, doubled
abbrev pub gauge_of : Sheet → ℕ → LineId → ℤ
gauge_of sheet s l = gauge (length (order_at sheet.orders s)) (place_in (order_at sheet.orders s) l)

-- where a line ends on segment s at node n: its foot there
abbrev pub foot_on : Sheet → ℕ → ℕ → LineId → Corner
foot_on sheet n s l =
    if (ends_at sheet.graph.ends s).0.0 == n then path_start_at sheet.pitch (walk_at sheet.walks s) (gauge_of sheet s l)
    else path_end_at sheet.pitch (walk_at sheet.walks s) (gauge_of sheet s l)

-- a line between its two ends at node n, where they differ
abbrev pub between : Sheet → ℕ → LineId → Corner → Corner → List Element
between sheet n l a b =
    if are_one a b then []
    else with_behind (colour_of sheet.names l) (BehindAtNode n l.0 (a ∷ b ∷ [])) (AtNode n l.0 (a ∷ b ∷ []) (colour_of sheet.names l))

abbrev pub join_elements : Sheet → ℕ → Join → List Element
join_elements sheet n j = between sheet n j.line (foot_on sheet n j.e.0 j.line) (foot_on sheet n j.f.0 j.line)

-- the joins of node n
abbrev pub node_joins : Sheet → ℕ → List Element
node_joins sheet n = flat_map (join_elements sheet n) (joins_at sheet.graph.joins n)

-- ---- stations

-- a segment goes before another at a node: it has more lines, or as many and a lesser number
abbrev pub goes_before : List (List LineId) → SegId → SegId → Bool
goes_before lines a b =
    if length (lines_at lines a.0) == length (lines_at lines b.0) then nat_lt a.0 b.0
    else nat_lt (length (lines_at lines b.0)) (length (lines_at lines a.0))

-- a segment, put before the first of these that it goes before
abbrev pub put_in : List (List LineId) → SegId → List SegId → List SegId
put_in lines a sorted = insert sorted (position_or_len (goes_before lines a) sorted) a

-- the segments of node n, those of more lines first, and those of as many by their numbers
abbrev pub by_size : GraphParts → ℕ → List SegId
by_size g n = fold (λ (sorted : List SegId) (a : SegId). put_in g.lines a sorted) [] (round_at g.rounds n)

-- a line with the segment on which it stands
pub record Stand : Type 0 where
  pub seg : ℕ
  pub line : LineId

-- the lines of a segment in its order
abbrev pub stands_on : Sheet → SegId → List Stand
stands_on sheet s = map (λ (l : LineId). let t : Stand = record { seg = s.0; line = l } in t) (order_at sheet.orders s.0)

-- the lines of all segments of node n
abbrev pub stands_at : Sheet → ℕ → List Stand
stands_at sheet n = flat_map (stands_on sheet) (by_size sheet.graph n)

-- of these, the first of each line that calls
abbrev pub first_stands : List LineId → List LineId → List Stand → List Stand
first_stands callers seen [] = []
first_stands callers seen (t ∷ ts) =
    if has_line t.line callers && not (has_line t.line seen) then t ∷ first_stands callers (seen ++ t.line ∷ []) ts
    else first_stands callers seen ts

-- corners, and one more where it is none of them
abbrev pub with_corner : List Corner → Corner → List Corner
with_corner path c = if list_any (are_one c) path then path else path ++ c ∷ []

-- the feet of the lines that call at node n, each once
abbrev pub feet_at : Sheet → ℕ → List Corner
feet_at sheet n =
    fold with_corner [] (map (λ (t : Stand). foot_on sheet n t.seg t.line) (first_stands (callers_at sheet.callers n) [] (stands_at sheet n)))

-- a path through corners: one alone stands twice, so that its round end is drawn
abbrev pub stroke_through : List Corner → List Corner
stroke_through [] = []
stroke_through (c ∷ []) = c ∷ c ∷ []
stroke_through (c ∷ d ∷ cs) = c ∷ d ∷ cs

-- the black stroke through feet and the white one over it, broader at an interchange
abbrev pub strokes_over : Bool → List Corner → List Element
strokes_over change path = Stroke path black (if change then 28 else 20) ∷ Stroke path white (if change then 18 else 12) ∷ []

-- the strokes of node n, where some line calls
abbrev pub strokes_at : Sheet → ℕ → List LineId → List Element
strokes_at sheet n [] = []
strokes_at sheet n (l ∷ ls) = strokes_over (is_interchange sheet.graph sheet.callers n) (stroke_through (feet_at sheet n))

-- node n, where it is a station
abbrev pub station_elements : Sheet → ℕ → NodeKind → List Element
station_elements sheet n (kind.Station s) =
    Station n (callers_at sheet.callers n) (station_name sheet.names s.0) ∷ (strokes_at sheet n (callers_at sheet.callers n) ++ Closes ∷ [])
station_elements sheet n kind.Junction = []

-- ---- names

-- a line that ends at a station, its colour dark where it is faint
abbrev pub ending_of : Names → LineId → Ending
ending_of names l = record { colour = if is_faint (colour_of names l) then dark else colour_of names l; name = name_of names l }

-- the lines that end at node n
abbrev pub endings_at : Sheet → ℕ → List Ending
endings_at sheet n = map (ending_of sheet.names) (ending sheet.names sheet.graph sheet.callers n)

-- the rim of a name, which only one that lies over lines has
abbrev pub rim_of : Step → Element → List Element
rim_of Full rim = []
rim_of Small rim = []
rim_of Over rim = rim ∷ []

-- a name in a step, with its rim behind it
abbrev pub name_elements : Sheet → Mark → Printed → List ℕ → List Element
name_elements sheet m p text =
    rim_of p.step (RimOfName (text_spot (sign_of sheet.pitch m) p.step p.place) p.step text (endings_at sheet m.node.0))
    ++ Name (text_spot (sign_of sheet.pitch m) p.step p.place) p.step text (endings_at sheet m.node.0) ∷ []

-- where the name of mark i is printed, if it is
abbrev pub printed_of : List Printed → ℕ → Option Printed
printed_of printed i = find (λ (p : Printed). p.mark == i) printed

-- the name of a mark, where it is printed
abbrev pub name_where : Sheet → Mark → Option Printed → List Element
name_where sheet m None = []
name_where sheet m (Some p) = name_elements sheet m p (unwrap_or (printed_at sheet.graph (all_rests sheet.names sheet.graph) m.node.0) [])

-- all names, in node order
abbrev pub all_names : Sheet → List Mark → List Printed → List Element
all_names sheet marks printed = flat_map (λ (i : ℕ). name_where sheet (mark_numbered marks i) (printed_of printed i)) (range_with_len 0 (length marks))

-- ---- the legend

-- so far to the right of a point, and so far below it
abbrev pub apart_from : Corner → ℕ → ℕ → Corner
apart_from c x y = record { x = c.x +ℤ pos x; y = c.y +ℤ pos y }

-- a row at a point: a piece of the line, and its name
abbrev pub row_elements : Names → Corner → LineId → List Element
row_elements names c l =
    with_behind (colour_of names l) (Stroke (c ∷ apart_from c 60 0 ∷ []) dark 14) (Stroke (c ∷ apart_from c 60 0 ∷ []) (colour_of names l) 12)
    ++ RowName (apart_from c 90 9) (name_of names l) ∷ []

-- the rows of lines from number i on
abbrev pub rows_from : Names → Legend → ℕ → List LineId → List Element
rows_from names legend i [] = []
rows_from names legend i (l ∷ ls) = row_elements names (row_at legend i) l ++ rows_from names legend (i + 1) ls

abbrev pub legend_elements : Names → Option Legend → List LineId → List Element
legend_elements names None lines = []
legend_elements names (Some legend) lines = rows_from names legend 0 lines

-- ---- the whole

-- the elements of a sheet, where these names are printed, and these lines in a legend
abbrev pub elements_with : Sheet → Plan → List Printed → List LineId → Option Legend → List Element
elements_with sheet plan printed lines legend =
    let frame = frame_beside (frame_with sheet.pitch plan printed) (length lines) (widest sheet.names lines) legend in
    Head frame ∷ Ground frame ∷ (Opens LinesGroup ∷ [])
    ++ (flat_map (segment_elements sheet) (range_with_len 0 (length sheet.graph.ends))
    ++ (flat_map (node_joins sheet) (range_with_len 0 (length sheet.graph.kinds))
    ++ (Closes ∷ Opens StationsGroup ∷ []
    ++ (flat_map (λ (n : ℕ). station_elements sheet n (kind_at sheet.graph.kinds n)) (range_with_len 0 (length sheet.graph.kinds))
    ++ (Closes ∷ Opens NamesGroup ∷ []
    ++ (all_names sheet plan.marks printed
    ++ (Closes ∷ Opens LegendGroup ∷ []
    ++ (legend_elements sheet.names legend lines ++ Closes ∷ Tail ∷ []))))))))

-- the elements of the sheet at a pitch of a plan, with the names that are printed there and the legend
abbrev pub elements_at : Names → GraphParts → List PlainWalk → List (List LineId) → List (List LineId) → Plan → ℕ → List Element
elements_at names g walks orders callers plan u =
    let printed = printed_names u plan in
    let lines = lines_shown (length names.lines) g in
    elements_with (record { names = names; graph = g; walks = walks; orders = orders; callers = callers; pitch = u })
    plan printed lines (legend_of u plan printed (length lines) (widest names lines))

-- The elements of a poster: the head and its ground; the lines; the stations; their names; the legend; the end.
abbrev pub elements : Names → GraphParts → List PlainWalk → List (List LineId) → List (List LineId) → List Element
elements names g walks orders callers =
    let plan = plan_of names g walks callers in
    elements_at names g walks orders callers plan (pitch_of plan)

-- the poster's text
abbrev pub poster_text : Names → GraphParts → List PlainWalk → List (List LineId) → List (List LineId) → List ℕ
poster_text names g walks orders callers = texts (elements names g walks orders callers)
