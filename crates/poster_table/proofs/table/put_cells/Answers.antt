use Rattle.std.proofs.Common.{◌≡◌, ℕ, ◌+◌, ◌-◌, List, length, subst, sym, arith}
use Rattle.std.specs.List.{flat_map, range_with_len}
use Rattle.poster_table.specs.Cells.{row_buckets}
use Rattle.poster_table.specs.Tables.{PutsIn}
use Rattle.poster_table.proofs.Putting.{puts_none, puts_then}
use Rattle.poster_table.proofs.Rows.{no_rows, one_row_more}
use Rattle.poster_table.proofs.table.put_cells.Goals as goal

pub loop-row-init : goal.loop-row-init
loop-row-init c =
    let old = c.args.buckets.now.items in
    record { far = omega arith; put = subst (λ (bs : List ℕ). PutsIn old old bs c.args.number) (sym (no_rows (row_buckets (length old) c.args.cells) c.args.cells.top)) (puts_none old c.args.number) }

pub loop-row-preserved : goal.loop-row-preserved
loop-row-preserved c =
    let old = c.args.buckets.now.items in
    let mid = c.loop-row.buckets.items in
    let new = c.put_row.new.buckets.items in
    let cells = c.args.cells in
    let top = cells.top in
    let row = c.loop-row.row in
    let along = row_buckets (length old) cells in
    record {
      far = omega arith;
      put = puts_then old mid new (flat_map along (range_with_len top (row - top))) (along row) (flat_map along (range_with_len top (row + 1 - top))) c.args.number
          (one_row_more along top row (omega arith)) c.loop-row.invariant.put
          (subst (λ (n : ℕ). PutsIn mid new (row_buckets n cells row) c.args.number) c.loop-row.invariant.put.count c.in_ok-put_row.ensures);
    }

pub returns : goal.returns
returns c =
    let old = c.args.buckets.now.items in
    let cells = c.args.cells in
    let count : c.loop-row.row - cells.top ≡ cells.bottom + 1 - cells.top = omega arith in
    subst (λ (n : ℕ). PutsIn old c.loop-row.buckets.items (flat_map (row_buckets (length old) cells) (range_with_len cells.top n)) c.args.number) count c.loop-row.invariant.put
