use Rattle.std.proofs.Common.{arith}
use Rattle.way_network.proofs.Numbering.{upper_edge_of_one, upper_edge_at}
use Rattle.way_network.proofs.numbers.upper_edge.Goals as goal

pub returns-in-1 : goal.returns-in-1
returns-in-1 c = upper_edge_of_one c.args.chain.now (omega arith)

pub returns-in_default : goal.returns-in_default
returns-in_default c = upper_edge_at c.args.chain.now (omega arith)
