use Rattle.std.proofs.Common.{◌∙◌, ◌||◌, ◌&&◌, ap, bytes_eq, arith}
use Rattle.table_rows.specs.Ids.{is_among}
use Rattle.table_rows.specs.Cells.{row_at}
use Rattle.stop_table.specs.Stops.{has_type, type_in}
use Rattle.table_rows.proofs.RowLemmas.{AreSame-filtered}
use Rattle.stop_table.proofs.parents.ids_of_type.Goals as goal

pub loop-row-preserved : goal.loop-row-preserved
loop-row-preserved c =
    AreSame-filtered c.args.columns.now.id (λ row. has_type c.args.wanted (type_in c.args.columns.now row)) c.loop-row.row c.args.rows.now c.loop-row.ids c.note_if.new.ids
    c.loop-row.auto.row
    (omega arith)
    c.loop-row.invariant
    (λ other. c.in_ok-note_if.ensures other
    ∙ ap (λ wanted. is_among other c.loop-row.ids || (wanted && bytes_eq other c.field_in.result.now)) (c.has_type-is_wanted.ensures ∙ ap (has_type c.args.wanted) c.type_in.ensures)
    ∙ ap (λ id. is_among other c.loop-row.ids || (has_type c.args.wanted (type_in c.args.columns.now (row_at c.args.rows.now c.loop-row.row)) && bytes_eq other id)) c.field_in.ensures)
