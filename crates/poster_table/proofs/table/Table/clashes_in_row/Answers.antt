use Rattle.std.proofs.Common.{◌≡◌, ℕ, ◌+◌, ◌-◌, false, [], ◌∷◌, length, refl, ap, sym, ◌∙◌, subst, arith}
use Rattle.std.specs.List.{list_any}
use Rattle.std.proofs.lemmas.Bool.{or_from}
use Rattle.std.proofs.lemmas.List.Folds.{list_any-append}
use Rattle.poster_table.specs.Cells.{bucket_of, buckets_along}
use Rattle.poster_table.specs.Tables.{hits_in}
use Rattle.poster_table.proofs.Rows.{in_row, no_columns, one_column_more}
use Rattle.poster_table.proofs.table.Table.clashes_in_row.Goals as goal

pub loop-column-init : goal.loop-column-init
loop-column-init c =
    record { far = omega arith; missed = ap (list_any (hits_in c.args.self.now c.args.thing)) (no_columns (length c.args.self.now.buckets.items) c.args.row c.args.cells.left) }

pub loop-column-preserved : goal.loop-column-preserved
loop-column-preserved c =
    let test = hits_in c.args.self.now c.args.thing in
    let n = length c.args.self.now.buckets.items in
    let row = c.args.row in
    let left = c.args.cells.left in
    let column = c.loop-column.column in
    record {
      far = omega arith;
      missed = ap (list_any test) (one_column_more n row left column (omega arith))
          ∙ list_any-append test (buckets_along n row left (column - left)) (bucket_of column row n ∷ [])
          ∙ or_from _ _ c.loop-column.invariant.missed (or_from _ _ (sym c.clashes_at.ensures ∙ c.if-clashes_at.false) refl);
    }

pub returns-then-clashes_at : goal.returns-then-clashes_at
returns-then-clashes_at c =
    sym (in_row (length c.args.self.now.buckets.items) c.args.cells c.args.row c.loop-column.column (hits_in c.args.self.now c.args.thing) (omega arith) (omega arith) (sym c.clashes_at.ensures ∙ c.if-clashes_at.true))

pub returns : goal.returns
returns c =
    let count : c.loop-column.column - c.args.cells.left ≡ c.args.cells.right + 1 - c.args.cells.left = omega arith in
    sym (subst (λ (k : ℕ). list_any (hits_in c.args.self.now c.args.thing) (buckets_along (length c.args.self.now.buckets.items) c.args.row c.args.cells.left k) ≡ false) count c.loop-column.invariant.missed)
