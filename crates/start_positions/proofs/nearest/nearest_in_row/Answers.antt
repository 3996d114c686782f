use Rattle.std.proofs.Common.{rules, ◌≡◌, pos, ◌-ℤ◌, w32, to_z, of_z, SFits, sym, ap, ◌∙◌, subst, Option, arith}
use Rattle.std.proofs.lemmas.Int.{ints, to_z-of_z}
use Rattle.octi_grid.specs.declared.point.GridPoint.{GridPoint}
use Rattle.grid_board.specs.Boards.{parts_of}
use Rattle.start_positions.specs.Nearest.{nearer_of, IsFirstEast, IsFirstWest, IsInRow, IsNearest}
use Rattle.start_positions.proofs.Rows.{row_nearest}
use Rattle.start_positions.proofs.Sides.{along_both}
use Rattle.start_positions.proofs.nearest.nearest_in_row.Goals as goal

pub returns : goal.returns
returns c =
    let board = parts_of c.args.board.now in
    let s = c.args.spot in
    let before = c.args.found in
    let east = c.first_east-east.result in
    let west = c.first_west-west.result in
    let fits : SFits w32 s.column = search rules in
    let y : to_z w32 (of_z w32 c.args.y) ≡ c.args.y = to_z-of_z w32 c.args.y c.ranges.y in
    let column : to_z w32 (of_z w32 s.column) ≡ s.column = to_z-of_z w32 s.column fits in
    let next : to_z w32 (of_z w32 (to_z w32 (of_z w32 s.column) -ℤ pos 2)) ≡ s.column -ℤ pos 2 = omega (arith, ints, column, fits.sfits, c.requires.spot.column.least) in
    let is : nearer_of s (nearer_of s before east) west ≡ c.nearer-2.result = ap (λ (o : Option GridPoint). nearer_of s o west) (sym c.nearer.ensures) ∙ sym c.nearer-2.ensures in
    subst (λ (o : Option GridPoint). IsNearest s (IsInRow board c.args.y) before o) is
    (row_nearest board.bounds board s c.args.y before east west c.requires.spot
    (along_both (λ v f. IsFirstEast board v f east) (to_z w32 (of_z w32 c.args.y)) c.args.y (to_z w32 (of_z w32 s.column)) s.column y column c.first_east-east.ensures)
    (along_both (λ v f. IsFirstWest board v f west) (to_z w32 (of_z w32 c.args.y)) c.args.y (to_z w32 (of_z w32 (to_z w32 (of_z w32 s.column) -ℤ pos 2))) (s.column -ℤ pos 2) y next c.first_west-west.ensures))
