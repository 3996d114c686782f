use Rattle.way_network.proofs.ChainThrough.{has_lines_of_edges}
use Rattle.way_network.proofs.laws.segments_have_the_lines_of_their_edges.Goals as goal

pub returns : goal.returns
returns c = has_lines_of_edges
