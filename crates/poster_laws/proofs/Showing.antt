-- Which elements of a poster show lines and stations.
use Rattle.std.proofs.Common.{◌≡◌, ℕ, ◌+◌, Bool, true, false, cond, List, [], ◌∷◌, ◌++◌, length, filter, Option, Some, None, unwrap_or, refl, ap, ◌∙◌, append-nil}
use Rattle.std.specs.List.{flat_map, range_with_len}
use Rattle.std.proofs.lemmas.List.Elements.{filter-append}
use Rattle.map_base.specs.declared.ids.LineId.{LineId}
use Rattle.graph_core.specs.declared.parts.Join.{Join}
use Rattle.graph_core.specs.declared.parts.NodeKind.{NodeKind}
use Rattle.graph_core.specs.declared.parts.NodeKind.TheVariants as kind
use Rattle.line_offsets.specs.declared.corner.Corner.{Corner}
use Rattle.svg_writer.specs.declared.names.Names.{Names}
use Rattle.svg_writer.specs.Courses.{order_at}
use Rattle.svg_writer.specs.Picture.{are_one, colour_of, joins_at, kind_at, name_of}
use Rattle.name_widths.specs.Colours.{is_pale}
use Rattle.poster_plan.specs.declared.layout.Legend.{Legend}
use Rattle.poster_plan.specs.declared.layout.Printed.{Printed}
use Rattle.poster_plan.specs.declared.layout.Step.{Step}
use Rattle.poster_plan.specs.declared.layout.Step.TheVariants.{Full, Small, Over}
use Rattle.poster_plan.specs.declared.place.Spot.{Spot}
use Rattle.poster_plan.specs.declared.plan.Mark.{Mark}
use Rattle.poster_plan.specs.declared.plan.Plan.{Plan}
use Rattle.poster_plan.specs.Legends.{row_at}
use Rattle.poster_plan.specs.Placing.{mark_numbered}
use Rattle.poster_plan.specs.Places.{text_spot}
use Rattle.poster_plan.specs.Signs.{sign_of}
use Rattle.poster_rules.specs.Elements.{Element, Ending, Opens, Closes, OnSegment, BehindOnSegment, AtNode, BehindAtNode, Stroke, Name, RimOfName, RowName, Tail, StationsGroup, NamesGroup, LegendGroup, dark}
use Rattle.poster_rules.specs.Stations.{callers_at}
use Rattle.poster_rules.specs.Texts.{all_rests, printed_at}
use Rattle.poster_rules.specs.Posters.{all_names, apart_from, elements_with, endings_at, foot_on, join_elements, legend_elements, line_elements, name_where, node_joins, path_on, printed_of, rim_of, row_elements, rows_from, segment_elements, station_elements, strokes_at, Sheet}
use Rattle.poster_laws.specs.Shown.{group_of, is_shown, paths_from, paths_of}

-- ---- lists of lists

kept : {X Y : Type 0} (p : Y → Bool) (f g : X → List Y) (xs : List X) → ((x : X) → filter p (f x) ≡ g x) → filter p (flat_map f xs) ≡ flat_map g xs
kept p f g [] each = refl
kept p f g (x ∷ xs) each =
    filter-append p (f x) (flat_map f xs) ∙ ap (λ ys. ys ++ filter p (flat_map f xs)) (each x) ∙ ap (λ ys. g x ++ ys) (kept p f g xs each)

none_kept : {X Y : Type 0} (p : Y → Bool) (f : X → List Y) (xs : List X) → ((x : X) → filter p (f x) ≡ []) → filter p (flat_map f xs) ≡ []
none_kept p f [] each = refl
none_kept p f (x ∷ xs) each = filter-append p (f x) (flat_map f xs) ∙ ap (λ ys. ys ++ filter p (flat_map f xs)) (each x) ∙ none_kept p f xs each

-- ---- the parts of a poster

module _ (sheet : Sheet) where
  segment_shown : (s n i : ℕ) (order : List LineId) → filter is_shown (line_elements sheet s n i order) ≡ paths_from sheet s n i order
  segment_shown s n i [] = refl
  segment_shown s n i (l ∷ order) = by_test (is_pale colour) ∙ ap (λ (es : List Element). front ∷ es) (segment_shown s n (i + 1) order)
    where
      colour : List ℕ
      colour = colour_of sheet.names l

      front : Element
      front = OnSegment s l.0 (path_on sheet s n i) colour (name_of sheet.names l)

      behind : Element
      behind = BehindOnSegment s l.0 (path_on sheet s n i)

      rest : List Element
      rest = line_elements sheet s n (i + 1) order

      by_test : (b : Bool) → filter is_shown (cond b (behind ∷ front ∷ []) (front ∷ []) ++ rest) ≡ front ∷ filter is_shown rest
      by_test true = refl
      by_test false = refl

  join_hidden : (n : ℕ) (j : Join) → filter is_shown (join_elements sheet n j) ≡ []
  join_hidden n j = by_tests (foot_on sheet n j.e.0 j.line) (foot_on sheet n j.f.0 j.line) (are_one (foot_on sheet n j.e.0 j.line) (foot_on sheet n j.f.0 j.line)) (is_pale (colour_of sheet.names j.line))
    where
      by_tests : (a b : Corner) (same pale : Bool)
          → filter is_shown (cond same [] (cond pale (BehindAtNode n j.line.0 (a ∷ b ∷ []) ∷ AtNode n j.line.0 (a ∷ b ∷ []) (colour_of sheet.names j.line) ∷ []) (AtNode n j.line.0 (a ∷ b ∷ []) (colour_of sheet.names j.line) ∷ [])))
          ≡ []
      by_tests a b true pale = refl
      by_tests a b false true = refl
      by_tests a b false false = refl

  station_shown : (n : ℕ) (k : NodeKind) → filter is_shown (station_elements sheet n k) ≡ group_of sheet n k
  station_shown n kind.Junction = refl
  station_shown n (kind.Station s) = ap (λ (es : List Element). group_of sheet n (kind.Station s) ++ es) (strokes_hidden (callers_at sheet.callers n))
    where
      strokes_hidden : (callers : List LineId) → filter is_shown (strokes_at sheet n callers ++ Closes ∷ []) ≡ []
      strokes_hidden [] = refl
      strokes_hidden (l ∷ ls) = refl

  name_hidden : (m : Mark) (o : Option Printed) → filter is_shown (name_where sheet m o) ≡ []
  name_hidden m None = refl
  name_hidden m (Some p) = by_step p.step (text_spot (sign_of sheet.pitch m) p.step p.place) p.step (unwrap_or (printed_at sheet.graph (all_rests sheet.names sheet.graph) m.node.0) []) (endings_at sheet m.node.0)
    where
      by_step : (z : Step) (spot : Spot) (step : Step) (text : List ℕ) (endings : List Ending) → filter is_shown (rim_of z (RimOfName spot step text endings) ++ Name spot step text endings ∷ []) ≡ []
      by_step Full spot step text endings = refl
      by_step Small spot step text endings = refl
      by_step Over spot step text endings = refl

row_hidden : (names : Names) (c : Corner) (l : LineId) (rest : List Element) → filter is_shown (row_elements names c l ++ rest) ≡ filter is_shown rest
row_hidden names c l rest = by_test (is_pale colour)
  where
    colour : List ℕ
    colour = colour_of names l

    path : List Corner
    path = c ∷ apart_from c 60 0 ∷ []

    by_test : (b : Bool)
        → filter is_shown ((cond b (Stroke path dark 14 ∷ Stroke path colour 12 ∷ []) (Stroke path colour 12 ∷ []) ++ RowName (apart_from c 90 9) (name_of names l) ∷ []) ++ rest) ≡ filter is_shown rest
    by_test true = refl
    by_test false = refl

rows_hidden : (names : Names) (legend : Legend) (i : ℕ) (lines : List LineId) → filter is_shown (rows_from names legend i lines) ≡ []
rows_hidden names legend i [] = refl
rows_hidden names legend i (l ∷ lines) = row_hidden names (row_at legend i) l (rows_from names legend (i + 1) lines) ∙ rows_hidden names legend (i + 1) lines

legend_hidden : (names : Names) (legend : Option Legend) (lines : List LineId) → filter is_shown (legend_elements names legend lines) ≡ []
legend_hidden names None lines = refl
legend_hidden names (Some legend) lines = rows_hidden names legend 0 lines

-- ---- the whole

pub shown_are : (sheet : Sheet) (plan : Plan) (printed : List Printed) (lines : List LineId) (legend : Option Legend)
    → filter is_shown (elements_with sheet plan printed lines legend)
    ≡ flat_map (paths_of sheet) (range_with_len 0 (length sheet.graph.ends)) ++ flat_map (λ (n : ℕ). group_of sheet n (kind_at sheet.graph.kinds n)) (range_with_len 0 (length sheet.graph.kinds))
shown_are sheet plan printed lines legend =
    after segments from_joins paths ([] ++ (groups ++ ([] ++ ([] ++ [])))) segments_are
    (after joins (Closes ∷ Opens StationsGroup ∷ from_stations) [] (groups ++ ([] ++ ([] ++ []))) joins_are
    (after stations (Closes ∷ Opens NamesGroup ∷ from_names) groups ([] ++ ([] ++ [])) stations_are
    (after names (Closes ∷ Opens LegendGroup ∷ from_rows) [] ([] ++ []) names_are
    (after rows (Closes ∷ Tail ∷ []) [] [] (legend_hidden sheet.names legend lines) refl))))
    ∙ ap (λ (es : List Element). paths ++ es) (append-nil groups)
  where
    segments : List Element
    segments = flat_map (segment_elements sheet) (range_with_len 0 (length sheet.graph.ends))

    joins : List Element
    joins = flat_map (node_joins sheet) (range_with_len 0 (length sheet.graph.kinds))

    stations : List Element
    stations = flat_map (λ (n : ℕ). station_elements sheet n (kind_at sheet.graph.kinds n)) (range_with_len 0 (length sheet.graph.kinds))

    names : List Element
    names = all_names sheet plan.marks printed

    rows : List Element
    rows = legend_elements sheet.names legend lines

    from_rows : List Element
    from_rows = rows ++ Closes ∷ Tail ∷ []

    from_names : List Element
    from_names = names ++ (Closes ∷ Opens LegendGroup ∷ from_rows)

    from_stations : List Element
    from_stations = stations ++ (Closes ∷ Opens NamesGroup ∷ from_names)

    from_joins : List Element
    from_joins = joins ++ (Closes ∷ Opens StationsGroup ∷ from_stations)

    paths : List Element
    paths = flat_map (paths_of sheet) (range_with_len 0 (length sheet.graph.ends))

    groups : List Element
    groups = flat_map (λ (n : ℕ). group_of sheet n (kind_at sheet.graph.kinds n)) (range_with_len 0 (length sheet.graph.kinds))

    -- what is kept of two parts
    after : (a b c d : List Element) → filter is_shown a ≡ c → filter is_shown b ≡ d → filter is_shown (a ++ b) ≡ c ++ d
    after a b c d e f = filter-append is_shown a b ∙ ap (λ (es : List Element). es ++ filter is_shown b) e ∙ ap (λ (es : List Element). c ++ es) f

    segments_are : filter is_shown segments ≡ paths
    segments_are = kept is_shown (segment_elements sheet) (paths_of sheet) (range_with_len 0 (length sheet.graph.ends)) (λ s. segment_shown sheet s (length (order_at sheet.orders s)) 0 (order_at sheet.orders s))

    joins_are : filter is_shown joins ≡ []
    joins_are = none_kept is_shown (node_joins sheet) (range_with_len 0 (length sheet.graph.kinds)) (λ n. none_kept is_shown (join_elements sheet n) (joins_at sheet.graph.joins n) (join_hidden sheet n))

    stations_are : filter is_shown stations ≡ groups
    stations_are =
        kept is_shown (λ (n : ℕ). station_elements sheet n (kind_at sheet.graph.kinds n)) (λ (n : ℕ). group_of sheet n (kind_at sheet.graph.kinds n)) (range_with_len 0 (length sheet.graph.kinds))
        (λ n. station_shown sheet n (kind_at sheet.graph.kinds n))

    names_are : filter is_shown names ≡ []
    names_are =
        none_kept is_shown (λ (i : ℕ). name_where sheet (mark_numbered plan.marks i) (printed_of printed i)) (range_with_len 0 (length plan.marks)) (λ i. name_hidden sheet (mark_numbered plan.marks i) (printed_of printed i))
