use Rattle.std.proofs.Common.{◌≡◌, ℕ, ◌+◌, ◌-◌, ap, subst, ◌∙◌, arith}
use Rattle.std.specs.List.{flat_map, range_with_len}
use Rattle.svg_writer.specs.declared.bounds.Bounds.{Bounds}
use Rattle.label_place.specs.Grids.{cells_of, put_in, row_cells, Grows}
use Rattle.label_place.proofs.Growing.{adds_one, no_rows, one_row_more, put_more, put_none}
use Rattle.label_place.proofs.grid.Grid.put.Goals as goal

pub loop-row-init : goal.loop-row-init
loop-row-init c =
    let cells = c.cells_of-cells.result in
    record { far = omega arith; grown = put_none c.args.self.now c.args.thing (flat_map (row_cells cells) (range_with_len cells.top (cells.top - cells.top))) (no_rows (row_cells cells) cells.top) c.requires.linked }

pub loop-row-preserved : goal.loop-row-preserved
loop-row-preserved c =
    let cells = c.cells_of-cells.result in
    let row = c.loop-row.row in
    record {
      far = omega arith;
      grown = put_more c.args.self.now c.loop-row.self c.put_row.new.self c.args.thing (flat_map (row_cells cells) (range_with_len cells.top (row - cells.top))) (row_cells cells row)
          (flat_map (row_cells cells) (range_with_len cells.top (row + 1 - cells.top))) (one_row_more (row_cells cells) cells.top row (omega arith)) c.loop-row.invariant.grown c.in_ok-put_row.ensures;
    }

pub returns : goal.returns
returns c =
    let cells = c.cells_of-cells.result in
    let count : c.loop-row.row - cells.top ≡ cells.bottom + 1 - cells.top = omega arith in
    adds_one c.args.self.now c.loop-row.self c.args.thing cells (c.cells_of-cells.ensures.value ∙ ap (λ (b : Bounds). cells_of c.args.self.now.side b) c.reach.ensures.value)
    (subst (λ (n : ℕ). Grows c.args.self.now c.loop-row.self (put_in (flat_map (row_cells cells) (range_with_len cells.top n)) c.args.thing)) count c.loop-row.invariant.grown)

pub put_row-requires-clause-linked : goal.put_row-requires-clause-linked
put_row-requires-clause-linked c = c.loop-row.invariant.grown.linked
