use Rattle.std.proofs.Common.{◌≤◌, ◌*◌, ℕ, sym, ◌∙◌, subst, arith}
use Rattle.std.specs.List.{AllByRecursion}
use Rattle.grid_board.specs.declared.bounds.Bounds.{Bounds}
use Rattle.grid_board.specs.Boards.{AreBounds}
use Rattle.start_positions.specs.Cells.{ceil_quotient}
use Rattle.start_positions.specs.Nearest.{IsOver}
use Rattle.start_positions.proofs.GridLemmas.{fine_here, grid_bounds, grid_same, offsets_over}
use Rattle.start_positions.proofs.placing.place_at.Goals as goal

pub grid_of-grid-requires-clause-width : goal.grid_of-grid-requires-clause-width
grid_of-grid-requires-clause-width c =
    let e = c.extents_of-extents.result in
    let are = c.extents_of-extents.ensures.extents in
    let side = c.cell_side-side.result in
    let fine = fine_here c.args.graph.now.places e c.args.cell side c.args.fineness are c.cell_side-side.ensures.value c.requires.cell c.requires.fine.1 in
    subst (λ (w : ℕ). ceil_quotient (w * c.args.fineness) side ≤ 1600) (sym are.width) fine.columns

pub grid_of-grid-requires-clause-height : goal.grid_of-grid-requires-clause-height
grid_of-grid-requires-clause-height c =
    let e = c.extents_of-extents.result in
    let are = c.extents_of-extents.ensures.extents in
    let side = c.cell_side-side.result in
    let fine = fine_here c.args.graph.now.places e c.args.cell side c.args.fineness are c.cell_side-side.ensures.value c.requires.cell c.requires.fine.1 in
    subst (λ (h : ℕ). ceil_quotient (h * c.args.fineness) side ≤ 1600) (sym are.height) fine.rows

pub homes_of-requires-clause-grid : goal.homes_of-requires-clause-grid
homes_of-requires-clause-grid c =
    let ps = c.args.graph.now.places in
    let e = c.extents_of-extents.result in
    let are = c.extents_of-extents.ensures.extents in
    let side = c.cell_side-side.result in
    let fine = fine_here ps e c.args.cell side c.args.fineness are c.cell_side-side.ensures.value c.requires.cell c.requires.fine.1 in
    let grid = grid_same ps e side c.args.fineness c.nodes.result c.grid_of-grid.result are (c.nodes.ensures.count ∙ sym c.nodes.ensures.fits.place_each) c.grid_of-grid.ensures in
    subst AreBounds (sym grid) (grid_bounds ps side c.args.fineness fine)

pub homes_of-requires-clause-offsets : goal.homes_of-requires-clause-offsets
homes_of-requires-clause-offsets c =
    let ps = c.args.graph.now.places in
    let e = c.extents_of-extents.result in
    let are = c.extents_of-extents.ensures.extents in
    let side = c.cell_side-side.result in
    let fine = fine_here ps e c.args.cell side c.args.fineness are c.cell_side-side.ensures.value c.requires.cell c.requires.fine.1 in
    let grid = grid_same ps e side c.args.fineness c.nodes.result c.grid_of-grid.result are (c.nodes.ensures.count ∙ sym c.nodes.ensures.fits.place_each) c.grid_of-grid.ensures in
    subst (λ (b : Bounds). AllByRecursion (IsOver b side c.args.fineness) c.args.offsets.now) (sym grid)
    (offsets_over ps side c.args.fineness c.args.offsets.now fine (omega (arith, are.wide, are.width)) (omega (arith, are.high, are.height)) c.requires.offsets)
