use Rattle.dual_ascent.proofs.Budgets.{same_result}
use Rattle.dual_ascent.proofs.laws.larger_budgets_find_the_same.Goals as goal

pub returns : goal.returns
returns c = same_result
