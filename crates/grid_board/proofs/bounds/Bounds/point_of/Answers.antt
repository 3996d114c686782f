use Rattle.std.proofs.Common.{◌≡◌, sym, true, subst, to_z, of_z, w32, rules}
use Rattle.std.proofs.lemmas.Int.{ints}
use Rattle.octi_grid.specs.declared.point.GridPoint.{GridPoint}
use Rattle.grid_board.specs.Boards.{contains, point_of}
use Rattle.grid_board.proofs.Within.{inside_test, point_inside, row_small}
use Rattle.grid_board.proofs.bounds.Bounds.point_of.Goals as goal

pub beyond-requires-2-clause-n : goal.beyond-requires-2-clause-n
beyond-requires-2-clause-n c = row_small c.args.self c.requires.frame c.args.n c.width-width.result c.requires.within c.width-width.ensures.value

pub returns-clause-inside : goal.returns-clause-inside
returns-clause-inside c =
    let same : record { x = to_z w32 (of_z w32 c.beyond.result); y = to_z w32 (of_z w32 c.beyond-2.result) } ≡ point_of c.args.self c.args.n = search (rules, ints) in
    subst (λ (p : GridPoint). contains c.args.self p ≡ true) (sym same) (inside_test c.args.self (point_of c.args.self c.args.n) (point_inside c.args.self c.requires.frame c.args.n c.requires.within))
