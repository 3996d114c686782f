use Rattle.std.proofs.Common.{◌≡◌, ◌∙◌, ap, subst, true}
use Rattle.octi_grid.specs.declared.point.GridPoint.{GridPoint}
use Rattle.octi_grid.specs.Ways.{step_from, IsWithin}
use Rattle.octi_grid.specs.Walks.{end_point}
use Rattle.grid_board.specs.Boards.{contains, parts_of}
use Rattle.grid_board.proofs.Ways.{within_board}
use Rattle.walk_tests.proofs.Longer.{longer}
use Rattle.walk_tests.proofs.boards.go_on.Goals as goal

pub push-requires : goal.push-requires
push-requires g c =
    let inside : contains c.bounds-bounds.result c.step.result ≡ true = cc in
    let next : c.step.result ≡ step_from (end_point c.args.walk.now) c.args.dir = c.step.ensures ∙ ap (λ (p : GridPoint). step_from p c.args.dir) c.end_of-end.ensures in
    subst IsWithin next (within_board c.bounds-bounds.result c.step.result c.bounds-bounds.ensures.in_range inside)

pub returns : goal.returns
returns g c =
    let here : contains c.bounds-bounds.result c.end_of-end.result ≡ true = cc in
    let there : contains c.bounds-bounds.result c.step.result ≡ true = cc in
    longer (parts_of c.args.board.now) c.bounds-bounds.result c.args.walk.now c.push.new.self c.args.dir c.end_of-end.result c.step.result c.bounds-bounds.ensures.value c.end_of-end.ensures c.step.ensures here there c.requires c.in_ok-push.ensures.ok
