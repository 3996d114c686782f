use Rattle.graph_maps.proofs.MadeLemmas.{made_alike}
use Rattle.map_engine.specs.Tables.{subject_of}
use Rattle.map_engine.specs.Making.{drawn_outcome}
use Rattle.map_engine.proofs.laws.moves_follow_routes_or_come_later.Goals as goal

pub returns : goal.returns
returns c = λ feed choices method moves improved h. made_alike (subject_of feed choices) choices method
    (drawn_outcome feed choices method) moves improved h
