-- `routes.txt`: which of its rows is bad, and which lines it gives (GTFS Schedule reference, routes.txt).
use Rattle.std.specs.Prelude.{ℕ, zero, suc, ◌+◌, ◌%◌, Bool, false, not, ◌&&◌, List, [], ◌∷◌, drop, filter, Option, Some, None, is_none, unwrap_or, Result, codes, nat_eq}
use Rattle.std.specs.List.{list_any, slice_index_or}
use Rattle.transit_feed.specs.declared.line.Line.{Line}
use Rattle.table_rows.specs.declared.why.Table.TheVariants as tables
use Rattle.table_rows.specs.declared.why.Why.{Why}
use Rattle.table_rows.specs.declared.why.Why.TheVariants.{WrongFields, NotUtf8, EmptyId, RepeatedId, BadType, BadColour}
use Rattle.table_rows.specs.declared.fault.FeedFault.{FeedFault}
use Rattle.table_rows.specs.Ids.{is_among}
use Rattle.table_rows.specs.Values.{number_of, colour_of}
use Rattle.table_rows.specs.Cells.{Row, row_at, column_of, field_in, ids_in, rows_before, ends_early, is_empty, is_text}
use Rattle.table_rows.specs.Reasons.{first_met, header_reason, first_bad, unless_bad}
use Rattle.route_tables.specs.declared.route_columns.RouteColumns.{RouteColumns}
use Rattle.route_tables.specs.declared.known.KnownRoutes.{KnownRoutes}
use Rattle.route_tables.specs.declared.known.FeedRoutes.{FeedRoutes}

-- where the columns stand
abbrev pub route_columns : List Row → RouteColumns
route_columns rows = record {
  id = column_of (codes "route_id") rows;
  kind = column_of (codes "route_type") rows;
  short_name = column_of (codes "route_short_name") rows;
  long_name = column_of (codes "route_long_name") rows;
  colour = column_of (codes "route_color") rows;
}

-- the columns that have to be there, and that no row may end before
abbrev pub required_columns : RouteColumns → List (Option ℕ)
required_columns c = c.id ∷ c.kind ∷ []

-- the type of a row, if it spells one
abbrev pub type_in : RouteColumns → Row → Option ℕ
type_in c row = number_of (field_in row c.kind)

-- whether a type is one of those that are wanted
abbrev pub is_wanted : List ℕ → Option ℕ → Bool
is_wanted types None = false
is_wanted types (Some kind) = list_any (λ wanted. nat_eq wanted kind) types

-- whether a row's route is selected
abbrev pub is_selected : List ℕ → RouteColumns → Row → Bool
is_selected types c row = is_wanted types (type_in c row)

-- whether a colour is neither empty nor six hexadecimal digits
abbrev pub is_bad_colour : List ℕ → Bool
is_bad_colour field = not (is_empty field) && is_none (colour_of field)

-- What is wrong with the row at a place behind the header. The colour is read where the route is selected.
abbrev pub route_reason : List ℕ → RouteColumns → List Row → ℕ → Option Why
route_reason types c rows place =
    let row = row_at rows place in
    first_met (
    (ends_early row (required_columns c), WrongFields)
    ∷ (not (is_text row), NotUtf8)
    ∷ (is_empty (field_in row c.id), EmptyId)
    ∷ (is_among (field_in row c.id) (ids_in c.id (rows_before place rows)), RepeatedId)
    ∷ (is_none (type_in c row), BadType)
    ∷ (is_selected types c row && is_bad_colour (field_in row c.colour), BadColour)
    ∷ [])

-- what is wrong with the row at a place; the header stands at place 0
abbrev pub routes_reason : List ℕ → List Row → ℕ → Option Why
routes_reason types rows zero = header_reason (required_columns (route_columns rows)) (row_at rows 0)
routes_reason types rows (suc n) = route_reason types (route_columns rows) rows (suc n)

-- a text, or another where it is empty
abbrev pub filled : List ℕ → List ℕ → List ℕ
filled [] other = other
filled (byte ∷ rest) other = byte ∷ rest

-- the name of a line: its short name, else its long name, else its id
abbrev pub name_in : RouteColumns → Row → List ℕ
name_in c row = filled (field_in row c.short_name) (filled (field_in row c.long_name) (field_in row c.id))

-- the colours of lines that have none, as red, green and blue
abbrev pub own_colours : List (List ℕ)
own_colours =
    (230 ∷ 25 ∷ 75 ∷ [])
    ∷ (60 ∷ 180 ∷ 75 ∷ [])
    ∷ (67 ∷ 99 ∷ 216 ∷ [])
    ∷ (245 ∷ 130 ∷ 49 ∷ [])
    ∷ (145 ∷ 30 ∷ 180 ∷ [])
    ∷ (70 ∷ 240 ∷ 240 ∷ [])
    ∷ (240 ∷ 50 ∷ 230 ∷ [])
    ∷ (154 ∷ 99 ∷ 36 ∷ [])
    ∷ (128 ∷ 0 ∷ 0 ∷ [])
    ∷ (128 ∷ 128 ∷ 0 ∷ [])
    ∷ (0 ∷ 0 ∷ 117 ∷ [])
    ∷ (128 ∷ 128 ∷ 128 ∷ [])
    ∷ []

-- the colour of the line of a number that has none: the twelve come in turn
abbrev pub own_colour : ℕ → List ℕ
own_colour number = slice_index_or own_colours (number % 12) []

-- the colour of the line of a number
abbrev pub colour_by : ℕ → List ℕ → List ℕ
colour_by number [] = own_colour number
colour_by number (byte ∷ rest) = unwrap_or (colour_of (byte ∷ rest)) (own_colour number)

-- the line of a number that a row is
abbrev pub line_of : RouteColumns → ℕ → Row → Line
line_of c number row = record {
  id = field_in row c.id;
  name = name_in c row;
  colour = colour_by number (field_in row c.colour);
  hidden = false;
}

-- rows as lines, the first of which has this number
abbrev pub lines_from : RouteColumns → ℕ → List Row → List Line
lines_from c number [] = []
lines_from c number (row ∷ rows) = line_of c number row ∷ lines_from c (number + 1) rows

-- the selected rows of a table, in their order
abbrev pub selected_rows : List ℕ → RouteColumns → List Row → List Row
selected_rows types c rows = filter (is_selected types c) (drop 1 rows)

-- the lines of a table, in the order of its rows
abbrev pub lines_of : List ℕ → List Row → List Line
lines_of types rows = lines_from (route_columns rows) 0 (selected_rows types (route_columns rows) rows)

-- the routes of a table by their ids
abbrev pub known_routes : List ℕ → List Row → KnownRoutes
known_routes types rows = record {
  ids = ids_in (route_columns rows).id (drop 1 rows);
  line_ids = ids_in (route_columns rows).id (selected_rows types (route_columns rows) rows);
}

-- the routes of a table, or its first bad row
abbrev pub feed_routes : List ℕ → List Row → Result FeedRoutes FeedFault
feed_routes types rows = unless_bad tables.Routes (first_bad (routes_reason types rows) rows) (record { lines = lines_of types rows; known = known_routes types rows })
