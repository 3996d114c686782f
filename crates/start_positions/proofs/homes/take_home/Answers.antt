use Rattle.std.proofs.Common.{◌≡◌, true, Option, None, ℤ, w32, to_z, of_z, sym, ap, ap₂, ◌∙◌, subst, arith}
use Rattle.std.proofs.lemmas.Int.{ints}
use Rattle.octi_grid.specs.declared.point.GridPoint.{GridPoint}
use Rattle.grid_board.specs.declared.bounds.Bounds.{Bounds}
use Rattle.grid_board.specs.Boards.{parts_of}
use Rattle.grid_board.proofs.Within.{frame_of}
use Rattle.start_positions.specs.Nearest.{is_open, IsNearest}
use Rattle.start_positions.proofs.OpenPoints.{home_found, home_none}
use Rattle.start_positions.proofs.homes.take_home.Goals as goal

pub returns-in-Some-clause-home : goal.returns-in-Some-clause-home
returns-in-Some-clause-home c =
    let board = parts_of c.args.board.now in
    sym (home_found board c.args.spot c.in-Some.home (frame_of board.bounds c.requires.bounds)
    (subst (λ (o : Option GridPoint). IsNearest c.args.spot (λ p. is_open board p ≡ true) None o) c.in-Some.is c.nearest_open.ensures)).0

pub returns-in-None-clause-home : goal.returns-in-None-clause-home
returns-in-None-clause-home c =
    let board = parts_of c.args.board.now in
    let bounds = c.bounds-bounds.result in
    let left : to_z w32 (of_z w32 bounds.left) ≡ bounds.left = omega (arith, ints, c.bounds-bounds.ensures.in_range.left.low, c.bounds-bounds.ensures.in_range.left.high) in
    let bottom : to_z w32 (of_z w32 bounds.bottom) ≡ bounds.bottom = omega (arith, ints, c.bounds-bounds.ensures.in_range.bottom.low, c.bounds-bounds.ensures.in_range.bottom.high) in
    ap₂ (λ (x y : ℤ). let p : GridPoint = record { x = x; y = y } in p) (left ∙ ap (λ (b : Bounds). b.left) c.bounds-bounds.ensures.value) (bottom ∙ ap (λ (b : Bounds). b.bottom) c.bounds-bounds.ensures.value)
    ∙ sym (home_none board c.args.spot (frame_of board.bounds c.requires.bounds)
    (subst (λ (o : Option GridPoint). IsNearest c.args.spot (λ p. is_open board p ≡ true) None o) c.in-None.is c.nearest_open.ensures)).0
