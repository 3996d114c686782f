use Rattle.std.proofs.lemmas.Result.{err_from_is_err_and}
use Rattle.kept_trees.proofs.LiveOutcomes.{live_result, live_fault}
use Rattle.kept_trees.proofs.own_search.search_live.Goals as goal

pub returns-clause-found : goal.returns-clause-found
returns-clause-found g c =
    live_result c.args.budget c.args.problem.now c.args.part.now c.in_ok-found.found c.in_ok-found.ensures.found c.in_ok-found.ensures.within

pub returns-in_err-found-clause-fault : goal.returns-in_err-found-clause-fault
returns-in_err-found-clause-fault g c =
    let p = err_from_is_err_and c.from_residual.result c.from_residual.ensures.1 in
    rw (p.1, p.2) (live_fault c.args.budget c.args.problem.now c.args.part.now c.in_err-found.field-0.0 c.in_err-found.ensures.fault)
