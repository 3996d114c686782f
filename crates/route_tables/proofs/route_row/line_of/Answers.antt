use Rattle.std.proofs.Common.{IsUtf8, subst, sym}
use Rattle.table_rows.specs.Cells.{row_at}
use Rattle.table_rows.proofs.CellLemmas.{IsUtf8-field}
use Rattle.route_tables.proofs.RouteLemmas.{IsUtf8-name}
use Rattle.route_tables.proofs.route_row.line_of.Goals as goal

pub text_of-requires : goal.text_of-requires
text_of-requires c =
    subst IsUtf8 (sym c.field_in-2.ensures) (IsUtf8-field (row_at c.args.rows.now c.args.row) c.args.columns.now.id c.requires.text)

pub text_of-requires-2 : goal.text_of-requires-2
text_of-requires-2 c =
    subst IsUtf8 (sym c.name_in.ensures) (IsUtf8-name c.args.columns.now (row_at c.args.rows.now c.args.row) c.requires.text)
