use Rattle.graph_maps.proofs.ReadAgain.{wrong_read}
use Rattle.graph_maps.proofs.laws.each_other_text_is_refused_at_its_first_wrong_line.Goals as goal

pub returns : goal.returns
returns c = λ bytes at e. wrong_read bytes at e
