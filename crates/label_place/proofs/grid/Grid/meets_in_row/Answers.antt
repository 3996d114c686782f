use Rattle.std.proofs.Common.{◌≡◌, ℕ, ◌+◌, ◌-◌, false, [], ◌∷◌, refl, ap, sym, ◌∙◌, subst, arith}
use Rattle.std.specs.List.{list_any}
use Rattle.std.proofs.lemmas.Bool.{or_from}
use Rattle.std.proofs.lemmas.List.Folds.{list_any-append}
use Rattle.label_place.specs.Grids.{cells_along, meets_at}
use Rattle.label_place.proofs.Growing.{cell_at, no_cells, one_cell_more}
use Rattle.label_place.proofs.Reaching.{in_row}
use Rattle.label_place.proofs.grid.Grid.meets_in_row.Goals as goal

pub loop-column-init : goal.loop-column-init
loop-column-init c =
    record { far = omega arith; missed = ap (list_any (meets_at c.args.self.now c.args.bounds)) (no_cells c.args.row c.args.cells.left) }

pub loop-column-preserved : goal.loop-column-preserved
loop-column-preserved c =
    let test = meets_at c.args.self.now c.args.bounds in
    let row = c.args.row in
    let left = c.args.cells.left in
    let column = c.loop-column.column in
    record {
      far = omega arith;
      missed = ap (list_any test) (one_cell_more row left column (omega arith))
          ∙ list_any-append test (cells_along row left (column - left)) (cell_at row column ∷ [])
          ∙ or_from _ _ c.loop-column.invariant.missed (or_from _ _ (sym c.meets_at.ensures ∙ c.if-meets_at.false) refl);
    }

pub returns-then-meets_at : goal.returns-then-meets_at
returns-then-meets_at c = sym (in_row c.args.cells c.args.row c.loop-column.column (meets_at c.args.self.now c.args.bounds) (omega arith) (omega arith) (sym c.meets_at.ensures ∙ c.if-meets_at.true))

pub returns : goal.returns
returns c =
    let count : c.loop-column.column - c.args.cells.left ≡ c.args.cells.right + 1 - c.args.cells.left = omega arith in
    sym (subst (λ (n : ℕ). list_any (meets_at c.args.self.now c.args.bounds) (cells_along c.args.row c.args.cells.left n) ≡ false) count c.loop-column.invariant.missed)
