use Rattle.order_proof.proofs.OneSpelling.{proof_same}
use Rattle.order_proof.proofs.laws.every_proof_has_one_spelling.Goals as goal

pub returns : goal.returns
returns c = λ p q a b first second e. proof_same p q a b first second e
