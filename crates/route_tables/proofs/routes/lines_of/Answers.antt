use Rattle.std.proofs.Common.{◌∙◌, ◌++◌, ◌∷◌, [], ap, sym, arith, length, if◌then◌else◌}
use Rattle.table_rows.specs.Cells.{row_at}
use Rattle.route_tables.proofs.RouteLemmas.{lines_before, is_text_of_route}
use Rattle.route_tables.specs.Routes.{is_selected, lines_from}
use Rattle.route_tables.proofs.routes.lines_of.Goals as goal

pub add_line-requires-clause-text : goal.add_line-requires-clause-text
add_line-requires-clause-text c =
    is_text_of_route c.args.types.now c.args.rows.now c.loop-row.row c.loop-row.auto.row (omega arith) c.requires.good

pub loop-row-preserved : goal.loop-row-preserved
loop-row-preserved c =
    let columns = c.args.columns.now in
    let rows = c.args.rows.now in
    let row = row_at rows c.loop-row.row in
    c.in_ok-add_line.ensures
    ∙ ap (λ wanted. c.loop-row.lines.items ++ lines_from columns (length c.loop-row.lines.items) (if wanted then row ∷ [] else [])) c.is_selected-wanted.ensures
    ∙ ap (λ lines. lines ++ lines_from columns (length lines) (if is_selected c.args.types.now columns row then row ∷ [] else [])) c.loop-row.invariant
    ∙ sym (lines_before c.args.types.now columns c.loop-row.row rows c.loop-row.auto.row (omega arith))
