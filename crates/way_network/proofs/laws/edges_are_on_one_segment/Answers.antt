use Rattle.way_network.proofs.ChainThrough.{has_edges_once}
use Rattle.way_network.proofs.laws.edges_are_on_one_segment.Goals as goal

pub returns : goal.returns
returns c = has_edges_once
