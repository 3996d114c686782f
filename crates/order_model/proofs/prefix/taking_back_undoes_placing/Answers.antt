use Rattle.order_model.proofs.PrefixLemmas.{undone}
use Rattle.order_model.proofs.prefix.taking_back_undoes_placing.Goals as goal

pub returns : goal.returns
returns c = undone
