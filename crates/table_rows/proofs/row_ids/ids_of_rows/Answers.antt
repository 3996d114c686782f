use Rattle.std.proofs.Common.{◌∙◌, ◌++◌, ◌∷◌, [], ap, sym, arith}
use Rattle.table_rows.specs.Cells.{ids_in, rows_before}
use Rattle.table_rows.proofs.RowLemmas.{ids_in_before}
use Rattle.table_rows.proofs.row_ids.ids_of_rows.Goals as goal

pub loop-row-preserved : goal.loop-row-preserved
loop-row-preserved c =
    c.in_ok-note_new.ensures
    ∙ ap (λ ids. ids ++ c.field_in.result.now ∷ []) c.loop-row.invariant
    ∙ ap (λ id. ids_in c.args.column (rows_before c.loop-row.row c.args.rows.now) ++ id ∷ []) c.field_in.ensures
    ∙ sym (ids_in_before c.args.column c.loop-row.row c.args.rows.now c.loop-row.auto.row (omega arith))
