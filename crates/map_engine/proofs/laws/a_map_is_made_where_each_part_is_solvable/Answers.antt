use Rattle.map_engine.proofs.SolvedParts.{map_of_solvable}
use Rattle.map_engine.proofs.laws.a_map_is_made_where_each_part_is_solvable.Goals as goal

pub returns : goal.returns
returns c = λ feed choices method drawn is all. map_of_solvable feed choices method drawn is all
