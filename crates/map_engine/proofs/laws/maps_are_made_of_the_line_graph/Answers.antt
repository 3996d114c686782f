use Rattle.map_engine.proofs.FeedMaps.{made_is}
use Rattle.map_engine.proofs.laws.maps_are_made_of_the_line_graph.Goals as goal

pub returns : goal.returns
returns c = λ feed choices method graph of_feed. made_is feed choices graph of_feed method
