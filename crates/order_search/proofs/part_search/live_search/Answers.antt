use Rattle.std.proofs.Common.{◌≡◌, ◌+◌, ◌≤◌, ◌∙◌, arith}
use Rattle.std.proofs.lemmas.Result.{err_from_is_err_and}
use Rattle.order_proof.specs.Trees.{splits_of}
use Rattle.order_search.specs.declared.search_state.Search.{Search}
use Rattle.order_search.specs.FoundParts.{branches_in}
use Rattle.order_search.specs.Searching.{due}
use Rattle.order_search.proofs.Whole.{err_any, best_whole, splits_whole, tree_whole, over_whole}
use Rattle.order_search.proofs.Ways.{stop_later}
use Rattle.order_search.proofs.part_search.live_search.Goals as goal

pub found-requires-clause-over : goal.found-requires-clause-over
found-requires-clause-over g c =
    over_whole _ _ _ _ c.in_ok-search.search c.in_ok-search.ensures c.grow.new.search.bounds _ c.in_ok-tree.ensures.grown.kept.bounds c.in_ok-tree.ensures.tree

pub returns-clause-tree : goal.returns-clause-tree
returns-clause-tree g c =
    c.in_ok-found.ensures.tree
    ∙ tree_whole _ _ _ _ c.in_ok-search.search c.in_ok-search.ensures c.grow.new.search.bounds _ c.in_ok-tree.ensures.grown.kept.bounds c.in_ok-tree.ensures.tree

pub returns-clause-best : goal.returns-clause-best
returns-clause-best g c =
    c.in_ok-found.ensures.best ∙ c.in_ok-tree.ensures.grown.found ∙ best_whole _ _ _ _ c.in_ok-search.search c.in_ok-search.ensures

pub returns-clause-branches : goal.returns-clause-branches
returns-clause-branches g c =
    let whole = splits_whole _ _ _ _ c.in_ok-search.search c.in_ok-search.ensures in
    let none : c.in_ok-search.search.spent ≡ 0 = c.in_ok-search.ensures.spent in
    omega (arith, c.in_ok-found.ensures.branches, c.in_ok-tree.ensures.grown.spent, whole, none)

pub returns-in_err-found-clause-few_steps : goal.returns-in_err-found-clause-few_steps
returns-in_err-found-clause-few_steps g c =
    let whole = splits_whole _ _ _ _ c.in_ok-search.search c.in_ok-search.ensures in
    let none : c.in_ok-search.search.spent ≡ 0 = c.in_ok-search.ensures.spent in
    let few : c.grow.new.steps ≤ c.args.steps.now + branches_in c.args.problem.now c.args.part.now = omega (arith, c.grow.ensures.steps, c.grow.ensures.most, whole, none) in
    err_any _ _ few

pub returns-in_err-tree-clause-few_steps : goal.returns-in_err-tree-clause-few_steps
returns-in_err-tree-clause-few_steps g c =
    let whole = splits_whole _ _ _ _ c.in_ok-search.search c.in_ok-search.ensures in
    let none : c.in_ok-search.search.spent ≡ 0 = c.in_ok-search.ensures.spent in
    let few : c.grow.new.steps ≤ c.args.steps.now + branches_in c.args.problem.now c.args.part.now = omega (arith, c.grow.ensures.steps, c.grow.ensures.most, whole, none) in
    err_any _ _ few

pub returns-in_err-tree-clause-stop : goal.returns-in_err-tree-clause-stop
returns-in_err-tree-clause-stop g c =
    let search : Search = c.in_ok-search.search in
    let whole = splits_whole _ _ _ _ search c.in_ok-search.ensures in
    let none : search.spent ≡ 0 = c.in_ok-search.ensures.spent in
    let p = err_from_is_err_and c.from_residual-in_err-tree.result c.from_residual-in_err-tree.ensures.1 in
    rw (p.1, p.2)
    (stop_later search.budget c.args.budget (search.spent + splits_of (due search).tree) (branches_in c.args.problem.now c.args.part.now)
    c.in_err-tree.field-0.0 c.in_ok-search.ensures.given (omega (arith, whole, none)) c.in_err-tree.ensures.stop)
