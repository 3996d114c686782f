use Rattle.order_proof.proofs.TextAgain.{end_again}
use Rattle.order_proof.proofs.laws.what_is_written_is_read.Goals as goal

pub returns : goal.returns
returns c = λ p behind range. end_again p behind range
