use Rattle.std.proofs.Common.{◌∙◌, sym, ap, not, ◌&&◌, ◌∷◌, [], is_none}
use Rattle.table_rows.specs.declared.why.Why.TheVariants.{WrongFields, NotUtf8, EmptyId, RepeatedId, BadLatitude, BadLongitude, BadType, UnknownParent}
use Rattle.table_rows.specs.Ids.{is_among}
use Rattle.table_rows.specs.Cells.{row_at, field_in, ids_in, rows_before, ends_early, is_text, is_empty}
use Rattle.stop_table.specs.Stops.{required_columns, is_placed, latitude_in, longitude_in, lacks_parent, type_in}
use Rattle.stop_table.proofs.StopLemmas.{first_met-fourth}
use Rattle.stop_table.proofs.stops_check.stop_reason.Goals as goal

pub returns-in-Some : goal.returns-in-Some
returns-in-Some c =
    let row = row_at c.args.rows.now c.args.row in
    let columns = c.args.columns.now in
    sym (first_met-fourth
    (ends_early row (required_columns columns))
    (not (is_text row))
    (is_empty (field_in row columns.id))
    (is_among (field_in row columns.id) (ids_in columns.id (rows_before c.args.row c.args.rows.now)))
    WrongFields NotUtf8 EmptyId RepeatedId
    ((is_placed (type_in columns row) && is_none (latitude_in columns row), BadLatitude)
    ∷ (is_placed (type_in columns row) && is_none (longitude_in columns row), BadLongitude)
    ∷ (is_none (type_in columns row), BadType)
    ∷ [])
    ((lacks_parent columns c.args.rows.now (type_in columns row) (field_in row columns.parent), UnknownParent) ∷ [])
    c.in-Some.why
    (sym c.ends_early.ensures ∙ c.if-ends_early.false)
    (ap not (sym c.is_text.ensures ∙ c.if-not-is_text.false))
    (ap is_empty (sym c.field_in.ensures) ∙ sym c.is_empty.ensures ∙ c.if-is_empty.false)
    (sym c.requires.repeated ∙ c.if-is_repeated.false)
    (sym c.place_reason.ensures ∙ c.in-Some.is))
