use Rattle.std.proofs.Common.{◌∙◌, ◌++◌, ◌∷◌, [], ap, sym, arith}
use Rattle.table_rows.specs.Cells.{row_at}
use Rattle.table_rows.proofs.RowLemmas.{map_before}
use Rattle.stop_table.specs.Leads.{station_led}
use Rattle.stop_table.proofs.leads.stations_led.Goals as goal

pub loop-row-preserved : goal.loop-row-preserved
loop-row-preserved c =
    let given = station_led c.args.columns.now c.args.rows.now in
    c.in_ok-push.ensures.items
    ∙ ap (λ found. c.loop-row.led.items ++ found ∷ []) c.station_led.ensures
    ∙ ap (λ all. all ++ given (row_at c.args.rows.now c.loop-row.row) ∷ []) c.loop-row.invariant
    ∙ sym (map_before given c.loop-row.row c.args.rows.now c.loop-row.auto.row (omega arith))
