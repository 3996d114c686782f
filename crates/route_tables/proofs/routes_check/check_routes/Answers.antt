use Rattle.std.proofs.Common.{◌∙◌, ap, sym, refl}
use Rattle.table_rows.specs.declared.why.Table.TheVariants.{Routes}
use Rattle.table_rows.specs.Cells.{row_at}
use Rattle.table_rows.specs.Reasons.{header_reason}
use Rattle.table_rows.proofs.ReasonLemmas.{Refuses-bad}
use Rattle.route_tables.specs.Routes.{routes_reason, required_columns}
use Rattle.route_tables.proofs.routes_check.check_routes.Goals as goal

pub returns-in-Some : goal.returns-in-Some
returns-in-Some c =
    Refuses-bad Routes (routes_reason c.args.types.now c.args.rows.now) c.args.rows.now tt 0 c.in-Some.why c.bad_row.result
    c.requires.header
    refl
    (ap (λ columns. header_reason (required_columns columns) (row_at c.args.rows.now 0)) (sym c.requires.columns) ∙ sym c.header_reason.ensures ∙ c.in-Some.is)
    c.bad_row.ensures
