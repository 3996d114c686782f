use Rattle.std.proofs.Common.{◌≡◌, ◌<◌, ℕ, false, [], get_or, bytes_eq}
use Rattle.table_rows.specs.Values.{bare}
use Rattle.table_rows.proofs.row_cells.column_in.Given as goal

abbrev pub invariant-loop-column : goal.invariant-loop-column
invariant-loop-column l = (k : ℕ) → k < l.column → bytes_eq (bare (get_or l.header k [])) l.name ≡ false
