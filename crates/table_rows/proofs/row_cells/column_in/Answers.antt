use Rattle.std.proofs.Common.{◌∙◌, ◌≤◌, ap, sym, bytes_eq, [], length, arith}
use Rattle.table_rows.specs.Values.{bare}
use Rattle.table_rows.proofs.CellLemmas.{position-at, position-none}
use Rattle.table_rows.proofs.row_cells.column_in.Goals as goal

pub returns-then-eq : goal.returns-then-eq
returns-then-eq c =
    sym (position-at (λ field. bytes_eq (bare field) c.args.name.now) c.args.header.now [] c.loop-column.column
    (omega arith)
    c.loop-column.invariant
    (ap (λ field. bytes_eq (bare field) c.args.name.now) (sym c.field.ensures)
    ∙ ap (λ name. bytes_eq name c.args.name.now) (sym c.bare.ensures)
    ∙ sym c.eq.ensures ∙ c.if-eq.true))

pub returns : goal.returns
returns c =
    let all : length c.args.header.now ≤ c.loop-column.column = omega arith in
    sym (position-none (λ field. bytes_eq (bare field) c.args.name.now) c.args.header.now [] (λ k h. c.loop-column.invariant k (omega arith)))
