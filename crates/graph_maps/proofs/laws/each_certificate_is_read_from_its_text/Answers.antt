use Rattle.graph_maps.proofs.ReadAgain.{text_read}
use Rattle.graph_maps.proofs.laws.each_certificate_is_read_from_its_text.Goals as goal

pub returns : goal.returns
returns c = λ d bytes is. text_read d bytes is
