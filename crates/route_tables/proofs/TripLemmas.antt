-- The reasons of `trips.txt`.
use Rattle.std.proofs.Common.{◌≡◌, ◌≤◌, ℕ, zero, suc, not, List, [], ◌∷◌, None, refl, sym, ◌∙◌, arith}
use Rattle.table_rows.specs.declared.why.Why.TheVariants.{WrongFields, NotUtf8, EmptyId, RepeatedId, UnknownRoute}
use Rattle.table_rows.specs.Ids.{is_among}
use Rattle.table_rows.specs.Cells.{Row, row_at, rows_before, field_in, ids_in, ends_early, is_text, is_empty}
use Rattle.table_rows.specs.NewIds.{AreNew}
use Rattle.table_rows.specs.Reasons.{first_bad}
use Rattle.table_rows.proofs.ReasonLemmas.{first_bad-at, text_and_fourth}
use Rattle.route_tables.specs.declared.known.KnownRoutes.{KnownRoutes}
use Rattle.route_tables.specs.Trips.{trip_columns, required_columns, trip_reason, trips_reason}

-- behind the header a row has the reasons of a row
pub trips_reason-behind : (routes : KnownRoutes) (rows : List Row) (place : ℕ) → 1 ≤ place → trips_reason routes rows place ≡ trip_reason routes (trip_columns rows) rows place
trips_reason-behind routes rows zero from = absurd (omega (arith, from))
trips_reason-behind routes rows (suc n) from = refl

-- each row of a table without a bad one has an id of its own
pub trips_new : (routes : KnownRoutes) (rows : List Row) → first_bad (trips_reason routes rows) rows ≡ None → AreNew (trip_columns rows).id rows
trips_new routes rows good = record {
  new = λ place from within.
      let c = trip_columns rows in
      let row = row_at rows place in
      (text_and_fourth (ends_early row (required_columns c)) (is_text row) (is_empty (field_in row c.id)) (is_among (field_in row c.id) (ids_in c.id (rows_before place rows)))
      WrongFields NotUtf8 EmptyId RepeatedId
      ((not (is_among (field_in row c.route) routes.ids), UnknownRoute) ∷ [])
      (sym (trips_reason-behind routes rows place from) ∙ first_bad-at (trips_reason routes rows) rows place within good)).1;
}
