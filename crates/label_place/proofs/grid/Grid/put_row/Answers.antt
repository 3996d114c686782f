use Rattle.std.proofs.Common.{◌≡◌, ℕ, ◌+◌, ◌-◌, [], ◌∷◌, subst, arith}
use Rattle.label_place.specs.Grids.{cells_along, put_in, Grows}
use Rattle.label_place.proofs.Growing.{cell_at, no_cells, one_cell_more, put_more, put_none}
use Rattle.label_place.proofs.grid.Grid.put_row.Goals as goal

pub loop-column-init : goal.loop-column-init
loop-column-init c =
    record { far = omega arith; grown = put_none c.args.self.now c.args.thing (cells_along c.args.row c.args.cells.left (c.args.cells.left - c.args.cells.left)) (no_cells c.args.row c.args.cells.left) c.requires.linked }

pub loop-column-preserved : goal.loop-column-preserved
loop-column-preserved c =
    let row = c.args.row in
    let left = c.args.cells.left in
    let column = c.loop-column.column in
    record {
      far = omega arith;
      grown = put_more c.args.self.now c.loop-column.self c.put_at.new.self c.args.thing (cells_along row left (column - left)) (cell_at row column ∷ []) (cells_along row left (column + 1 - left))
          (one_cell_more row left column (omega arith)) c.loop-column.invariant.grown c.in_ok-put_at.ensures;
    }

pub returns : goal.returns
returns c =
    let count : c.loop-column.column - c.args.cells.left ≡ c.args.cells.right + 1 - c.args.cells.left = omega arith in
    subst (λ (n : ℕ). Grows c.args.self.now c.loop-column.self (put_in (cells_along c.args.row c.args.cells.left n) c.args.thing)) count c.loop-column.invariant.grown

pub put_at-requires-clause-linked : goal.put_at-requires-clause-linked
put_at-requires-clause-linked c = c.loop-column.invariant.grown.linked
