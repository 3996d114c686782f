use Rattle.graph_maps.proofs.NoneLeft.{none_left}
use Rattle.map_engine.specs.Tables.{subject_of}
use Rattle.map_engine.specs.Making.{drawn_outcome}
use Rattle.map_engine.proofs.laws.what_was_made_is_not_searched_again.Goals as goal

pub returns : goal.returns
returns c = λ feed choices method made held h there. none_left (subject_of feed choices) choices method
    (drawn_outcome feed choices method) made held h there
