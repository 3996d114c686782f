use Rattle.std.proofs.Common.{◌≡◌, ℕ, ◌+◌, ◌-◌, [], ◌∷◌, List, length, subst, sym, arith}
use Rattle.poster_table.specs.Cells.{bucket_of, buckets_along}
use Rattle.poster_table.specs.Tables.{PutsIn}
use Rattle.poster_table.proofs.Putting.{puts_none, puts_then}
use Rattle.poster_table.proofs.Rows.{no_columns, one_column_more}
use Rattle.poster_table.proofs.table.put_row.Goals as goal

pub loop-column-init : goal.loop-column-init
loop-column-init c =
    let old = c.args.buckets.now.items in
    record { far = omega arith; put = subst (λ (bs : List ℕ). PutsIn old old bs c.args.number) (sym (no_columns (length old) c.args.row c.args.cells.left)) (puts_none old c.args.number) }

pub loop-column-preserved : goal.loop-column-preserved
loop-column-preserved c =
    let old = c.args.buckets.now.items in
    let mid = c.loop-column.buckets.items in
    let new = c.put_at.new.buckets.items in
    let row = c.args.row in
    let left = c.args.cells.left in
    let column = c.loop-column.column in
    record {
      far = omega arith;
      put = puts_then old mid new (buckets_along (length old) row left (column - left)) (bucket_of column row (length old) ∷ []) (buckets_along (length old) row left (column + 1 - left)) c.args.number
          (one_column_more (length old) row left column (omega arith)) c.loop-column.invariant.put
          (subst (λ (n : ℕ). PutsIn mid new (bucket_of column row n ∷ []) c.args.number) c.loop-column.invariant.put.count c.in_ok-put_at.ensures);
    }

pub returns : goal.returns
returns c =
    let old = c.args.buckets.now.items in
    let count : c.loop-column.column - c.args.cells.left ≡ c.args.cells.right + 1 - c.args.cells.left = omega arith in
    subst (λ (n : ℕ). PutsIn old c.loop-column.buckets.items (buckets_along (length old) c.args.row c.args.cells.left n) c.args.number) count c.loop-column.invariant.put
