use Rattle.std.proofs.Common.{◌≡◌, ℕ, ◌+◌, ◌-◌, false, ap, sym, ◌∙◌, subst, arith}
use Rattle.std.specs.List.{flat_map, list_any, range_with_len}
use Rattle.std.proofs.lemmas.Bool.{or_from}
use Rattle.std.proofs.lemmas.List.Folds.{list_any-append}
use Rattle.label_place.specs.declared.cells.Cells.{Cells}
use Rattle.label_place.specs.Grids.{cells_in, meets_at, row_cells}
use Rattle.label_place.proofs.Growing.{no_rows, one_row_more}
use Rattle.label_place.proofs.Reaching.{in_rows_of}
use Rattle.label_place.proofs.grid.Grid.meets.Goals as goal

pub loop-row-init : goal.loop-row-init
loop-row-init c =
    record { far = omega arith; missed = ap (list_any (meets_at c.args.self.now c.args.bounds)) (no_rows (row_cells c.cells_of-cells.result) c.cells_of-cells.result.top) }

pub loop-row-preserved : goal.loop-row-preserved
loop-row-preserved c =
    let test = meets_at c.args.self.now c.args.bounds in
    let cells = c.cells_of-cells.result in
    let row = c.loop-row.row in
    record {
      far = omega arith;
      missed = ap (list_any test) (one_row_more (row_cells cells) cells.top row (omega arith))
          ∙ list_any-append test (flat_map (row_cells cells) (range_with_len cells.top (row - cells.top))) (row_cells cells row)
          ∙ or_from _ _ c.loop-row.invariant.missed (sym c.meets_in_row.ensures ∙ c.if-meets_in_row.false);
    }

pub returns-then-meets_in_row : goal.returns-then-meets_in_row
returns-then-meets_in_row c =
    let test = meets_at c.args.self.now c.args.bounds in
    let cells = c.cells_of-cells.result in
    sym (in_rows_of cells c.loop-row.row test (omega arith) (omega arith) (sym c.meets_in_row.ensures ∙ c.if-meets_in_row.true)) ∙ ap (λ (cs : Cells). list_any test (cells_in cs)) c.cells_of-cells.ensures.value

pub returns : goal.returns
returns c =
    let test = meets_at c.args.self.now c.args.bounds in
    let cells = c.cells_of-cells.result in
    let count : c.loop-row.row - cells.top ≡ cells.bottom + 1 - cells.top = omega arith in
    sym (subst (λ (n : ℕ). list_any test (flat_map (row_cells cells) (range_with_len cells.top n)) ≡ false) count c.loop-row.invariant.missed) ∙ ap (λ (cs : Cells). list_any test (cells_in cs)) c.cells_of-cells.ensures.value
