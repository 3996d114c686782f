use Rattle.std.proofs.Common.{◌∙◌, ◌++◌, ◌∷◌, [], ap, sym, arith, if◌then◌else◌}
use Rattle.table_rows.specs.Ids.{is_among}
use Rattle.table_rows.specs.Cells.{row_at, field_in, rows_before}
use Rattle.table_rows.proofs.RowLemmas.{is_among-unfiltered, ids_filtered_before}
use Rattle.route_tables.specs.Routes.{is_selected}
use Rattle.route_tables.proofs.routes.line_ids.Goals as goal

pub note_new-requires : goal.note_new-requires
note_new-requires c =
    let rows = c.args.rows.now in
    let columns = c.args.columns.now in
    ap (λ id. is_among id c.loop-row.ids) c.field_in.ensures
    ∙ ap (is_among (field_in (row_at rows c.loop-row.row) columns.id)) c.loop-row.invariant
    ∙ is_among-unfiltered columns.id (is_selected c.args.types.now columns) (field_in (row_at rows c.loop-row.row) columns.id) (rows_before c.loop-row.row rows)
    (c.requires.new.new c.loop-row.row c.loop-row.auto.row (omega arith))

pub loop-row-preserved : goal.loop-row-preserved
loop-row-preserved c =
    let rows = c.args.rows.now in
    let columns = c.args.columns.now in
    let test = is_selected c.args.types.now columns in
    let row = row_at rows c.loop-row.row in
    c.in_ok-note_new.ensures
    ∙ ap (λ wanted. if wanted then c.loop-row.ids ++ c.field_in.result.now ∷ [] else c.loop-row.ids) c.is_selected-wanted.ensures
    ∙ ap (λ id. if test row then c.loop-row.ids ++ id ∷ [] else c.loop-row.ids) c.field_in.ensures
    ∙ ap (λ ids. if test row then ids ++ field_in row columns.id ∷ [] else ids) c.loop-row.invariant
    ∙ sym (ids_filtered_before columns.id test c.loop-row.row rows c.loop-row.auto.row (omega arith))
