use Rattle.std.proofs.Common.{ℕ}
use Rattle.walk_search.specs.Asking.{question}
use Rattle.walk_search.specs.Walked.{KeepsCost}
use Rattle.walk_search.proofs.Walking.{if_none}
use Rattle.walk_search.proofs.walk.kept_move.Goals as goal

pub returns-in_err-step-clause-none : goal.returns-in_err-step-clause-none
returns-in_err-step-clause-none c =
    if_none c.from_residual.result ((to : ℕ) → KeepsCost (question c.args.asked.now) c.args.known.now c.args.at c.args.label to → ⊥) (λ to k. c.in_err-step.ensures.none to k.cost k.goes)
