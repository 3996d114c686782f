use Rattle.way_network.proofs.ChainThrough.{has_lines_of_ways}
use Rattle.way_network.proofs.laws.lines_are_on_the_segments_of_their_ways.Goals as goal

pub returns : goal.returns
returns c = has_lines_of_ways
