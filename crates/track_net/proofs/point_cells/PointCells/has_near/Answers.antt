use Rattle.std.proofs.Common.{◌∙◌}
use Rattle.track_net.proofs.Finding.{found_where_near}
use Rattle.track_net.proofs.point_cells.PointCells.has_near.Goals as goal

pub returns : goal.returns
returns c =
    c.is_some.ensures ∙ found_where_near c.args.within c.args.self.now.points c.args.at c.near_point.result c.near_point.ensures
