use Rattle.graph_maps.proofs.Promised.{shows_graph, accepts_map}
use Rattle.graph_maps.proofs.promises.a_solved_drawing_is_accepted.Goals as goal

pub returns-clause-shows : goal.returns-clause-shows
returns-clause-shows c = shows_graph

pub returns-clause-accepted : goal.returns-clause-accepted
returns-clause-accepted c = accepts_map
