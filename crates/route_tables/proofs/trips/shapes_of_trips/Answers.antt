use Rattle.std.proofs.Common.{◌∙◌, ◌++◌, ◌∷◌, [], ap, sym, arith}
use Rattle.table_rows.specs.Cells.{row_at}
use Rattle.table_rows.proofs.RowLemmas.{map_before}
use Rattle.route_tables.specs.Trips.{shape_in}
use Rattle.route_tables.proofs.trips.shapes_of_trips.Goals as goal

pub loop-row-preserved : goal.loop-row-preserved
loop-row-preserved c =
    let given = shape_in c.args.routes.now c.args.columns.now in
    c.in_ok-push.ensures
    ∙ ap (λ found. c.loop-row.shapes ++ found ∷ []) c.shape_in.ensures
    ∙ ap (λ all. all ++ given (row_at c.args.rows.now c.loop-row.row) ∷ []) c.loop-row.invariant
    ∙ sym (map_before given c.loop-row.row c.args.rows.now c.loop-row.auto.row (omega arith))
