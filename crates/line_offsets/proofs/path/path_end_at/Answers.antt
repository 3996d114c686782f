use Rattle.std.proofs.Common.{w32, to_z, of_z, ap, ◌∙◌}
use Rattle.std.proofs.lemmas.Int.{to_z-of_z}
use Rattle.octi_grid.specs.Walks.{last_of}
use Rattle.octi_grid.specs.declared.point.GridPoint.{GridPoint}
use Rattle.line_offsets.specs.Shifts.{moved_at, foot_of}
use Rattle.line_offsets.specs.Paths.{path_end_at}
use Rattle.line_offsets.proofs.Paths.{end_is, last_by}
use Rattle.line_offsets.proofs.path.path_end_at.Goals as goal

pub returns : goal.returns
returns c =
    let w = c.args.walk.now in
    let k = to_z w32 (of_z w32 c.args.k) in
    c.moved_at.ensures
    ∙ ap (λ by. moved_at c.args.pitch c.end_of.result k by) c.foot_of.ensures.value
    ∙ ap (λ (p : GridPoint). moved_at c.args.pitch p k (foot_of c.reverse.result)) c.end_of.ensures
    ∙ end_is c.args.pitch k w.start w.steps c.reverse.result (last_by (last_of w.steps) c.end_port.result c.reverse.result c.end_port.ensures c.reverse.ensures)
    ∙ ap (path_end_at c.args.pitch w) (to_z-of_z w32 c.args.k c.ranges.k)
