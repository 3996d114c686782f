use Rattle.std.proofs.Common.{◌++◌, ◌∷◌, [], List, sym, ap, ◌∙◌, subst}
use Rattle.octi_grid.specs.declared.point.GridPoint.{GridPoint}
use Rattle.grid_board.specs.Boards.{parts_of, BoardParts}
use Rattle.grid_board.proofs.Within.{frame_of}
use Rattle.start_positions.specs.Nearest.{with_home, HasHomes}
use Rattle.start_positions.proofs.OpenPoints.{has_homes_more, home_same, with_home_bounds}
use Rattle.start_positions.proofs.homes.put_home.Goals as goal

pub returns-clause-homes : goal.returns-clause-homes
returns-clause-homes c =
    let board = parts_of c.args.board.now in
    let homes = c.args.homes.now.items in
    c.in_ok-push.ensures.items
    ∙ ap (λ (h : GridPoint). homes ++ h ∷ []) (c.take_home-home.ensures.home ∙ home_same board c.args.spot homes (frame_of board.bounds c.requires.bounds) c.requires.homes)

pub returns-clause-bounds : goal.returns-clause-bounds
returns-clause-bounds c = ap (λ (b : BoardParts). b.bounds) c.take_home-home.ensures.board ∙ with_home_bounds (parts_of c.args.board.now) c.take_home-home.result

pub returns-clause-board : goal.returns-clause-board
returns-clause-board c =
    let board = parts_of c.args.board.now in
    let homes = c.args.homes.now.items in
    let home = c.take_home-home.result in
    subst (λ (b : BoardParts). HasHomes b c.push.new.self.items) (sym c.take_home-home.ensures.board)
    (subst (λ (hs : List GridPoint). HasHomes (with_home board home) hs) (sym c.in_ok-push.ensures.items) (has_homes_more board homes home c.requires.homes))
