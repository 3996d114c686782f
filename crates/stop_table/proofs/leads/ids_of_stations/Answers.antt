use Rattle.std.proofs.Common.{◌∙◌, ◌++◌, ◌∷◌, [], ap, sym, arith, drop, filter, if◌then◌else◌}
use Rattle.table_rows.specs.Ids.{is_among}
use Rattle.table_rows.specs.Cells.{row_at, field_in, rows_before, ids_in}
use Rattle.table_rows.proofs.RowLemmas.{is_among-unfiltered, ids_filtered_before, rows_before-all}
use Rattle.stop_table.proofs.LeadLemmas.{is_station_row, station_ids-rows, ids_of_stations-few}
use Rattle.stop_table.proofs.leads.ids_of_stations.Goals as goal

pub note_new-requires : goal.note_new-requires
note_new-requires c =
    let rows = c.args.rows.now in
    let columns = c.args.columns.now in
    ap (λ id. is_among id c.loop-row.ids) c.field_in.ensures
    ∙ ap (is_among (field_in (row_at rows c.loop-row.row) columns.id)) c.loop-row.invariant
    ∙ is_among-unfiltered columns.id (is_station_row columns) (field_in (row_at rows c.loop-row.row) columns.id) (rows_before c.loop-row.row rows)
    (c.requires.new.new c.loop-row.row c.loop-row.auto.row (omega arith))

pub loop-row-preserved : goal.loop-row-preserved
loop-row-preserved c =
    let rows = c.args.rows.now in
    let columns = c.args.columns.now in
    let test = is_station_row columns in
    let row = row_at rows c.loop-row.row in
    c.in_ok-note_new.ensures
    ∙ ap (λ wanted. if wanted then c.loop-row.ids ++ c.field_in.result.now ∷ [] else c.loop-row.ids) c.is_own_station-wanted.ensures
    ∙ ap (λ id. if test row then c.loop-row.ids ++ id ∷ [] else c.loop-row.ids) c.field_in.ensures
    ∙ ap (λ ids. if test row then ids ++ field_in row columns.id ∷ [] else ids) c.loop-row.invariant
    ∙ sym (ids_filtered_before columns.id test c.loop-row.row rows c.loop-row.auto.row (omega arith))

pub returns-clause-ids : goal.returns-clause-ids
returns-clause-ids c =
    c.loop-row.invariant
    ∙ ap (λ rows. ids_in c.args.columns.now.id (filter (is_station_row c.args.columns.now) rows)) (rows_before-all c.loop-row.row c.args.rows.now (omega arith))
    ∙ ap (λ columns. ids_in columns.id (filter (is_station_row columns) (drop 1 c.args.rows.now))) c.requires.columns
    ∙ sym (station_ids-rows c.args.rows.now)

pub returns-clause-few : goal.returns-clause-few
returns-clause-few c =
    ids_of_stations-few c.args.columns.now c.args.rows.now c.loop-row.row c.loop-row.ids c.loop-row.invariant
