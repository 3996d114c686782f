use Rattle.svg_writer.proofs.Appends.{grew4}
use Rattle.svg_writer.proofs.whole.push_map.Goals as goal

pub returns : goal.returns
returns g c = grew4 _ _ _ _ _ _ _ _ _ c.in_ok-push_head.ensures c.in_ok-push_all_lines.ensures c.in_ok-push_all_joins.ensures c.in_ok-push_all_markers.ensures
