use Rattle.graph_maps.proofs.Straightened.{drawn_straight}
use Rattle.graph_maps.proofs.laws.straightening_changes_walks_alone.Goals as goal

pub returns : goal.returns
returns c = λ importance choices method graph. drawn_straight importance choices method graph
