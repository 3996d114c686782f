use Rattle.export_command.proofs.MadeAgain.{made_again}
use Rattle.export_command.proofs.laws.a_graph_that_is_read_again_makes_the_same_map.Goals as goal

pub returns : goal.returns
returns c = λ graph names importance choices other method fit have light alike.
    made_again graph names importance fit have choices other method alike light
