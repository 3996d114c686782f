use Rattle.graph_maps.proofs.Alike.{made_the_same}
use Rattle.graph_maps.proofs.laws.maps_depend_on_three_settings.Goals as goal

pub returns : goal.returns
returns c = λ subject some other method graph weights cell budget. made_the_same subject some other method graph weights
    cell budget
