use Rattle.std.proofs.Common.{refl}
use Rattle.graph_maps.proofs.laws.moves_change_walks_alone.Goals as goal

pub returns : goal.returns
returns c = λ importance drawn parts moves. refl
