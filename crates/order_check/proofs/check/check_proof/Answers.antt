use Rattle.std.proofs.lemmas.Result.{err_from_is_err_and}
use Rattle.order_model.specs.Costs.{cost_of}
use Rattle.order_proof.specs.Plain.{plain_proof}
use Rattle.order_check.specs.Verdict.{total_refusal, bound_refusal}
use Rattle.order_check.proofs.Verdicts.{refused_first, verdict_total, verdict_none, best_where_attained}
use Rattle.order_check.proofs.check.check_proof.Goals as goal

pub returns-in_err-bound-clause-refused : goal.returns-in_err-bound-clause-refused
returns-in_err-bound-clause-refused c =
    let p = err_from_is_err_and c.from_residual-in_err-bound.result c.from_residual-in_err-bound.ensures.1 in
    rw (p.1, p.2)
    (refused_first (bound_refusal c.args.problem (plain_proof c.args.proof.now)) (total_refusal (plain_proof c.args.proof.now).parts (cost_of c.args.problem.terms c.args.orders.now.lists))
    c.in_err-bound.field-0.0 c.in_err-bound.ensures.refused)

pub returns-then-bound-cost-clause-refused : goal.returns-then-bound-cost-clause-refused
returns-then-bound-cost-clause-refused c =
    verdict_total c.args.problem c.args.orders.now.lists (plain_proof c.args.proof.now) c.in_ok-bound.bound c.in_ok-cost.cost c.in_ok-bound.ensures.accepted c.in_ok-bound.ensures.sum c.in_ok-cost.ensures c.if-bound-cost.true

pub returns-clause-accepted : goal.returns-clause-accepted
returns-clause-accepted c =
    verdict_none c.args.problem c.args.orders.now.lists (plain_proof c.args.proof.now) c.in_ok-bound.bound c.in_ok-cost.cost c.in_ok-bound.ensures.accepted c.in_ok-bound.ensures.sum c.in_ok-cost.ensures c.if-bound-cost.false

pub returns-clause-best : goal.returns-clause-best
returns-clause-best c =
    best_where_attained c.args.problem.segs c.args.problem.terms c.args.orders.now.lists c.in_ok-bound.bound c.in_ok-cost.cost c.in_ok-bound.ensures.bound c.if-bound-cost.false c.in_ok-cost.ensures
