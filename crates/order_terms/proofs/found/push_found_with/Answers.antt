use Rattle.std.proofs.lemmas.Result.{err_from_is_err_and}
use Rattle.order_terms.specs.Terms.{found_by}
use Rattle.order_terms.proofs.Faults.{above_in_loop}
use Rattle.order_terms.proofs.found.push_found_with.Goals as goal

pub returns-in_err-push_found_by-clause-err : goal.returns-in_err-push_found_by-clause-err
returns-in_err-push_found_by-clause-err c =
    let p = err_from_is_err_and c.from_residual.result c.from_residual.ensures.1 in
    rw (p.1, p.2)
    (above_in_loop (found_by c.args.end.weights c.args.end.at_lower c.args.end.seg c.args.u) c.args.ways.now c.loop-v.v-index
    _ _ c.args.found.now c.loop-v.found _ c.loop-v-test.true c.loop-v.invariant.0 c.in_err-push_found_by.ensures.err)
