use Rattle.std.proofs.Common.{sym, ◌∙◌, subst, ℕ, ◌≤◌}
use Rattle.walk_search.specs.Asking.{question}
use Rattle.walk_search.proofs.Offered.{may_end_cheap}
use Rattle.walk_search.proofs.asked.Asked.end_cost.Goals as goal

pub returns-clause-within : goal.returns-clause-within
returns-clause-within c = subst (λ (n : ℕ). n ≤ 20) (sym c.to_cost.ensures) (may_end_cheap (question c.args.self.now) c.args.spot (sym c.may_end.ensures ∙ c.if-not-may_end.false))
