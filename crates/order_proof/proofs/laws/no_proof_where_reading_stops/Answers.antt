use Rattle.order_proof.proofs.TextAgain.{none_where_stopped}
use Rattle.order_proof.proofs.laws.no_proof_where_reading_stops.Goals as goal

pub returns : goal.returns
returns c = λ bytes behind at p stopped range e. none_where_stopped bytes behind at p stopped range e
