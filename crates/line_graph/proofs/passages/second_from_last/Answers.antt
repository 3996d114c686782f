use Rattle.std.proofs.Common.{ap}
use Rattle.way_network.proofs.Numbering.{upper_edge_at}
use Rattle.line_graph.proofs.passages.second_from_last.Goals as goal

pub returns-then-points-ge2 : goal.returns-then-points-ge2
returns-then-points-ge2 c = ap (λ pair. pair.1) (upper_edge_at c.args.points.now c.if-points-ge2.true)
