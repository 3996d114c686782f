-- The reasons and the lines of `routes.txt`.
use Rattle.std.proofs.Common.{◌≡◌, ◌≤◌, ◌<◌, ℕ, zero, suc, ◌+◌, true, false, ◌&&◌, List, [], ◌∷◌, ◌++◌, filter, length, None, is_none, Ok, refl, ap, sym, ◌∙◌, arith, if◌then◌else◌, IsUtf8}
use Rattle.transit_feed.specs.declared.line.Line.{Line}
use Rattle.table_rows.specs.declared.why.Table.TheVariants.{Routes}
use Rattle.table_rows.specs.declared.why.Why.TheVariants.{WrongFields, NotUtf8, EmptyId, RepeatedId, BadType, BadColour}
use Rattle.table_rows.specs.Ids.{is_among}
use Rattle.table_rows.specs.Cells.{Row, row_at, rows_before, field_in, ids_in, ends_early, is_text, is_empty}
use Rattle.table_rows.specs.NewIds.{AreNew}
use Rattle.table_rows.specs.Reasons.{first_bad, unless_bad}
use Rattle.table_rows.proofs.ReasonLemmas.{first_bad-at, text_and_fourth}
use Rattle.table_rows.proofs.CellLemmas.{IsUtf8-field}
use Rattle.table_rows.proofs.RowLemmas.{filter_before}
use Rattle.route_tables.specs.declared.route_columns.RouteColumns.{RouteColumns}
use Rattle.route_tables.specs.declared.known.KnownRoutes.{KnownRoutes}
use Rattle.route_tables.specs.declared.known.FeedRoutes.{FeedRoutes}
use Rattle.route_tables.specs.Routes.{route_columns, required_columns, type_in, is_selected, is_bad_colour, route_reason, routes_reason, line_of, lines_from, lines_of, known_routes, feed_routes, filled, name_in}

-- behind the header a row has the reasons of a row
pub routes_reason-behind : (types : List ℕ) (rows : List Row) (place : ℕ) → 1 ≤ place → routes_reason types rows place ≡ route_reason types (route_columns rows) rows place
routes_reason-behind types rows zero from = absurd (omega (arith, from))
routes_reason-behind types rows (suc n) from = refl

-- a row of a table without a bad one is text, and has an id of its own
good_route : (types : List ℕ) (rows : List Row) (place : ℕ) → 1 ≤ place → place < length rows → first_bad (routes_reason types rows) rows ≡ None
    → (is_text (row_at rows place) ≡ true) × (is_among (field_in (row_at rows place) (route_columns rows).id) (ids_in (route_columns rows).id (rows_before place rows)) ≡ false)
good_route types rows place from within good =
    let c = route_columns rows in
    let row = row_at rows place in
    text_and_fourth (ends_early row (required_columns c)) (is_text row) (is_empty (field_in row c.id)) (is_among (field_in row c.id) (ids_in c.id (rows_before place rows)))
    WrongFields NotUtf8 EmptyId RepeatedId
    ((is_none (type_in c row), BadType) ∷ (is_selected types c row && is_bad_colour (field_in row c.colour), BadColour) ∷ [])
    (sym (routes_reason-behind types rows place from) ∙ first_bad-at (routes_reason types rows) rows place within good)

pub is_text_of_route : (types : List ℕ) (rows : List Row) (place : ℕ) → 1 ≤ place → place < length rows → first_bad (routes_reason types rows) rows ≡ None → is_text (row_at rows place) ≡ true
is_text_of_route types rows place from within good = (good_route types rows place from within good).0

pub routes_new : (types : List ℕ) (rows : List Row) → first_bad (routes_reason types rows) rows ≡ None → AreNew (route_columns rows).id rows
routes_new types rows good = record { new = λ place from within. (good_route types rows place from within good).1 }

-- the routes of a table without a bad row
pub feed_routes_good : (types : List ℕ) (rows : List Row) (lines : List Line) (known : KnownRoutes) → first_bad (routes_reason types rows) rows ≡ None
    → lines ≡ lines_of types rows → known ≡ known_routes types rows → feed_routes types rows ≡ Ok (record { lines = lines; known = known })
feed_routes_good types rows lines known good same_lines same_known =
    ap (λ bad. unless_bad Routes bad (make (lines_of types rows) (known_routes types rows))) good
    ∙ ap (λ lines. Ok (make lines (known_routes types rows))) (sym same_lines)
    ∙ ap (λ known. Ok (make lines known)) (sym same_known)
  where
    make : List Line → KnownRoutes → FeedRoutes
    make lines known = record { lines = lines; known = known }

-- lines of rows, one part after another
lines_from-append : (c : RouteColumns) (n : ℕ) (rows others : List Row) → lines_from c n (rows ++ others) ≡ lines_from c n rows ++ lines_from c (n + length rows) others
lines_from-append c n [] others = ap (λ m. lines_from c m others) (omega arith)
lines_from-append c n (row ∷ rows) others =
    let e : n + 1 + length rows ≡ n + suc (length rows) = omega arith in
    ap (λ rest. line_of c n row ∷ rest) (lines_from-append c (n + 1) rows others ∙ ap (λ m. lines_from c (n + 1) rows ++ lines_from c m others) e)

pub length-lines_from : (c : RouteColumns) (n : ℕ) (rows : List Row) → length (lines_from c n rows) ≡ length rows
length-lines_from c n [] = refl
length-lines_from c n (row ∷ rows) = ap suc (length-lines_from c (n + 1) rows)

-- the lines of the rows before a place, once one more row is looked at
pub lines_before : (types : List ℕ) (c : RouteColumns) (place : ℕ) (rows : List Row) → 1 ≤ place → place < length rows
    → lines_from c 0 (filter (is_selected types c) (rows_before (place + 1) rows))
    ≡ lines_from c 0 (filter (is_selected types c) (rows_before place rows))
    ++ lines_from c (length (lines_from c 0 (filter (is_selected types c) (rows_before place rows)))) (if is_selected types c (row_at rows place) then row_at rows place ∷ [] else [])
lines_before types c place rows from l =
    let earlier = filter (is_selected types c) (rows_before place rows) in
    let last = if is_selected types c (row_at rows place) then row_at rows place ∷ [] else [] in
    let n : 0 + length earlier ≡ length (lines_from c 0 earlier) = omega (arith, length-lines_from c 0 earlier) in
    ap (lines_from c 0) (filter_before (is_selected types c) place rows from l)
    ∙ lines_from-append c 0 earlier last
    ∙ ap (λ n. lines_from c 0 earlier ++ lines_from c n last) n

-- the name of a line of a row that is text is UTF-8
pub IsUtf8-name : (c : RouteColumns) (row : Row) → is_text row ≡ true → IsUtf8 (name_in c row)
IsUtf8-name c row text =
    by (field_in row c.short_name) (IsUtf8-field row c.short_name text)
    (by (field_in row c.long_name) (IsUtf8-field row c.long_name text) (IsUtf8-field row c.id text))
  where
    by : (text : List ℕ) {other : List ℕ} → IsUtf8 text → IsUtf8 other → IsUtf8 (filled text other)
    by [] this that = that
    by (byte ∷ rest) this that = this
