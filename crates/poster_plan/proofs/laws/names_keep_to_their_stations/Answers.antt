use Rattle.poster_plan.proofs.Homes.{all_well}
use Rattle.poster_plan.proofs.laws.names_keep_to_their_stations.Goals as goal

pub returns : goal.returns
returns c = λ u plan. (all_well u plan).home
