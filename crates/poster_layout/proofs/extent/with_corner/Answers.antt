use Rattle.std.proofs.Common.{sym, subst}
use Rattle.poster_layout.specs.Extents.{IsNearFrame}
use Rattle.poster_layout.proofs.Corners.{near_widened}
use Rattle.poster_layout.proofs.extent.with_corner.Goals as goal

pub returns-clause-near : goal.returns-clause-near
returns-clause-near c = subst IsNearFrame (sym c.widened.ensures) (near_widened c.args.frame c.args.c c.requires.frame c.requires.corner)
