use Rattle.order_model.proofs.OneParts.{parts_exactly}
use Rattle.order_model.proofs.parts.a_problem_has_one_list_of_parts.Goals as goal

pub returns : goal.returns
returns c = parts_exactly
