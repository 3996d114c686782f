use Rattle.way_network.proofs.ChainThrough.{has_used_edges}
use Rattle.way_network.proofs.laws.used_edges_are_on_segments.Goals as goal

pub returns : goal.returns
returns c = has_used_edges
