use Rattle.poster_picture.specs.Sheets.{plain}
use Rattle.poster_picture.proofs.Wholes.{map_written}
use Rattle.poster_picture.proofs.whole.push_map.Goals as goal

pub returns : goal.returns
returns c =
    map_written (plain c.args.sheet) c.args.frame _ _ _ _ _ _ _ _ _ _ c.in_ok-push_head.ensures c.in_ok-push_ground.ensures c.in_ok-open_lines.ensures c.in_ok-push_all_lines.ensures c.in_ok-push_all_joins.ensures
    c.in_ok-close_group.ensures c.in_ok-open_stations.ensures c.in_ok-push_all_stations.ensures c.in_ok-close_group-2.ensures
