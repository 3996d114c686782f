use Rattle.std.proofs.Common.{arith}
use Rattle.graph_maps.specs.Subjects.{told_by}
use Rattle.kept_walks.proofs.Promised.{farther}
use Rattle.graph_maps.proofs.MovedDrawings.{written_by}
use Rattle.graph_maps.proofs.making.moved_map.Goals as goal

pub moved-requires-clause-near : goal.moved-requires-clause-near
moved-requires-clause-near c = farther 1820 1900 (omega arith) c.args.drawing.walks c.requires.near

pub moved-requires-2-clause-near : goal.moved-requires-2-clause-near
moved-requires-2-clause-near c =
    farther 1824 1900 (omega arith) c.in_ok-once.once.walks (c.in_ok-once.ensures.near 1820 c.requires.near)

pub returns : goal.returns
returns c =
    written_by (told_by c.args.names.now c.args.importance.now) c.args.graph.now c.args.drawing.walks c.args.best
    c.args.first c.args.moves
    (c.in_ok-once.once, c.in_ok-once._earlier) (c.in_ok-twice.twice, c.in_ok-twice.improvement) c.in_ok-map.map
    c.in_ok-once.ensures c.in_ok-twice.ensures c.in_ok-map.ensures
