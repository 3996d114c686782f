use Rattle.std.proofs.Common.{◌∙◌, ap, sym, refl, arith}
use Rattle.table_rows.specs.declared.why.Table.TheVariants.{Shapes}
use Rattle.table_rows.specs.Cells.{row_at}
use Rattle.table_rows.specs.Reasons.{header_reason}
use Rattle.table_rows.proofs.ReasonLemmas.{Refuses-bad}
use Rattle.sequence_tables.specs.Shapes.{shapes_reason, required_columns, known_shapes}
use Rattle.sequence_tables.proofs.shapes.shapes_in.Goals as goal

pub returns-in-Some : goal.returns-in-Some
returns-in-Some c =
    Refuses-bad Shapes (shapes_reason c.args.trips.now c.args.rows.now) c.args.rows.now (known_shapes c.args.trips.now c.args.rows.now) 0 c.in-Some.why c.bad_row-in-Some.result
    (omega arith)
    refl
    (ap (λ columns. header_reason (required_columns columns) (row_at c.args.rows.now 0)) (sym c.shape_columns-columns.ensures) ∙ sym c.header_reason.ensures ∙ c.in-Some.is)
    c.bad_row-in-Some.ensures
