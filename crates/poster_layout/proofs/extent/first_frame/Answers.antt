use Rattle.std.proofs.Common.{ap, sym, subst, ◌∙◌}
use Rattle.eight_sides.specs.Frames.{frame_at}
use Rattle.poster_layout.specs.Extents.{IsNearFrame}
use Rattle.poster_layout.proofs.Corners.{near_at}
use Rattle.poster_layout.proofs.extent.first_frame.Goals as goal

pub returns-clause-value : goal.returns-clause-value
returns-clause-value c = c.frame_at.ensures ∙ ap frame_at c.first_corner.ensures.value

pub returns-clause-near : goal.returns-clause-near
returns-clause-near c = subst IsNearFrame (sym c.frame_at.ensures) (near_at c.first_corner.result c.first_corner.ensures.near)
