use Rattle.std.proofs.Common.{ap, length, vec_len, arith, ◌∙◌}
use Rattle.std.proofs.lemmas.Result.{err_from_is_err_and}
use Rattle.order_terms.proofs.GraphProblem.{above_at_node}
use Rattle.order_terms.proofs.graph_terms.all_terms.Goals as goal

pub returns-in_err-push_terms_at-clause-limit : goal.returns-in_err-push_terms_at-clause-limit
returns-in_err-push_terms_at-clause-limit c =
    let p = err_from_is_err_and c.from_residual-in_err-push_terms_at.result c.from_residual-in_err-push_terms_at.ensures.1 in
    rw (p.1, p.2)
    (above_at_node c.args.graph.now c.args.weights.now c.args.importance.now c.loop-n.n 4000000 (vec_len c.loop-n.terms) _ (omega (arith, c.nodes-nodes.ensures.count))
    (c.loop-n.terms.ok.0 ∙ ap length c.loop-n.invariant.0) c.in_err-push_terms_at.ensures.err)
