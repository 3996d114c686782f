use Rattle.std.proofs.Common.{subst, ℤ}
use Rattle.track_net.specs.Cells.{FindsAround}
use Rattle.track_net.proofs.CellsAround.{kept_in_plane}
use Rattle.track_net.proofs.Finding.{found_among}
use Rattle.track_net.proofs.point_cells.near_in_cells.Goals as goal

pub near_around-requires-clause-in_plane : goal.near_around-requires-clause-in_plane
near_around-requires-clause-in_plane c = λ cell. kept_in_plane c.args.size c.args.points.now c.args.cells.now c.requires.in_plane c.requires.theirs cell

pub returns : goal.returns
returns c =
    found_among c.args.size c.args.within c.args.points.now c.args.at c.args.cells.now c.near_around.result c.requires.some c.requires.within c.requires.theirs
    (subst (λ (d : ℤ × ℤ). FindsAround c.args.within c.args.at c.args.cells.now d c.near_around.result) c.cell_at.ensures.value c.near_around.ensures)
