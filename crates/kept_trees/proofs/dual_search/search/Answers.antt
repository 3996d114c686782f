use Rattle.std.proofs.Common.{◌≡◌, ◌≤◌, [], List, Option, rules, refl, sym, ◌∙◌, ap, subst, arith}
use Rattle.order_model.specs.declared.problem.ProblemParts.{ProblemParts}
use Rattle.dual_bound.specs.declared.settled.SettledPair.{SettledPair}
use Rattle.dual_ascent.specs.OwnNumbers.{zeros}
use Rattle.dual_ascent.specs.DualSteps.{AreWithin}
use Rattle.dual_ascent.specs.Rounds as rounds
use Rattle.dual_ascent.specs.Walks as walks
use Rattle.dual_ascent.specs.DualResults.{most_forks, root_rounds, result_after, dual_result}
use Rattle.dual_ascent.proofs.Pricing.{zeros_within}
use Rattle.dual_orders.specs.Values.{incumbent_of}
use Rattle.dual_orders.specs.SettledPairs.{pairs_of}
use Rattle.kept_trees.specs.declared.walked.WalkedTree.{WalkedTree}
use Rattle.kept_trees.specs.declared.walk.NodeEnd.{NodeEnd}
use Rattle.kept_trees.specs.Searching.{ascent_of, bound_of, progress_of, plain_walked, fork_at, counted, WalkIs, EndIs}
use Rattle.kept_trees.proofs.Beginning.{zero_prices}
use Rattle.kept_trees.proofs.Composing.{few_prices, incumbent_within}
use Rattle.kept_trees.proofs.Walking.{err_all}
use Rattle.kept_trees.proofs.RootNodes.{searched, root, root_are, spent_is, stop_is, over_few}
use Rattle.kept_trees.proofs.RootNodes.{result_of, fork_is, fork_few, told_by}
use Rattle.kept_trees.proofs.dual_search.search.Goals as goal
use Rattle.kept_trees.proofs.dual_search.search.Goals.{After-as_slice, After-ascend, Else-not-ascend}
use Rattle.kept_trees.proofs.dual_search.search.Goals.{In_ok-tree, In_ok-tree-in-Fork}

-- the root begins with prices that are all 0
no_prices : (g : _) (c : After-as_slice g) → c.as_slice.result.now ≡ zeros c.in_ok-part.part.problem.now
no_prices g c =
    c.as_slice.ensures.value
    ∙ c.in_ok-prices.ensures.items_if_clones_equal (search rules)
    ∙ zero_prices c.in_ok-part.part.problem.now c.args.problem.now c.terms.result.now c.in_ok-part.ensures.same
    c.terms.ensures.list

-- what its rounds come to
root_after : (g : _) (c : After-ascend g) (s : rounds.Stage)
    → rounds.closed (searched c.in_ok-part.part.problem.now c.args.budget) (pairs_of c.as_slice-2.result.now)
    (rounds.rounds (searched c.in_ok-part.part.problem.now c.args.budget) (pairs_of c.as_slice-2.result.now) root_rounds
    (ascent_of c.in_ok-now.now c.in_ok-root.root)) ≡ s
    → root c.in_ok-part.part.problem.now c.args.budget ≡ s
root_after g c s =
    root_are c.in_ok-part.part.problem.now c.args.budget c.as_slice-2.result.now
    (ascent_of c.in_ok-now.now c.in_ok-root.root) c.as_slice.result.now (incumbent_of c.in_ok-now.now.incumbent)
    c.in_ok-now.now.branches s (c.as_slice-2.ensures.value ∙ c.new-settled.ensures.items)
    (c.in_ok-root.ensures.first c.in_ok-now.now) (no_prices g (goal.at.After-ascend g c).After-as_slice)
    c.in_ok-now.ensures.first c.in_ok-now.ensures.none

root_over : (g : _) (c : Else-not-ascend g)
    → root c.in_ok-part.part.problem.now c.args.budget ≡ rounds.over (ascent_of c.ascend.new.now c.ascend.new.ascent)
root_over g c =
    root_after g (goal.at.Else-not-ascend g c).After-ascend (rounds.over (ascent_of c.ascend.new.now c.ascend.new.ascent))
    (c.if-not-ascend.ensures.over refl)

-- what it then is
root_end : (g : _) (c : In_ok-tree g)
    → EndIs c.in_ok-part.part.problem.now [] (ascent_of c.ascend.new.now c.ascend.new.ascent)
    (progress_of c.node_end.new.now) c.in_ok-tree.field-0
root_end g c =
    subst (λ (l : List SettledPair). EndIs c.in_ok-part.part.problem.now (pairs_of l)
    (ascent_of c.ascend.new.now c.ascend.new.ascent) (progress_of c.node_end.new.now) c.in_ok-tree.field-0)
    (c.as_slice-3.ensures.value ∙ c.new-settled.ensures.items) c.in_ok-tree.ensures.end

-- what comes of it where it is a fork
forked : (g : _) (c : In_ok-tree-in-Fork g)
    → result_of (bound_of c.into_bound-bound.result) c.in_ok-tree-in-Fork.field-0 (progress_of c.fork.new.now)
    ≡ dual_result c.in_ok-part.part.problem.now c.args.budget
forked g c =
    let p : ProblemParts = c.in_ok-part.part.problem.now in
    let at = goal.at.In_ok-tree-in-Fork g c in
    let a : rounds.Ascent = ascent_of c.ascend.new.now c.ascend.new.ascent in
    let next : walks.Progress = progress_of c.node_end.new.now in
    let later : walks.Progress = progress_of c.fork.new.now in
    let bound : rounds.LowerBound = bound_of c.into_bound-bound.result in
    fork_is p c.args.budget a bound next (root_over g at.Else-not-ascend) c.into_bound-bound.ensures c.in-Fork.pair
    c.in_ok-tree-in-Fork.field-0 later
    (subst (λ (x : NodeEnd). EndIs p [] a next x) c.in-Fork.is (root_end g at.In_ok-tree))
    (λ d is. subst (λ (l : List SettledPair). WalkIs c.in_ok-tree-in-Fork.field-0 later
    (fork_at (searched p c.args.budget) most_forks d bound (pairs_of l) next)) c.new-settled.ensures.items
    (c.in_ok-tree-in-Fork.ensures.walked d is))

pub first_ascent-requires-clause-prices : goal.first_ascent-requires-clause-prices
first_ascent-requires-clause-prices g c =
    let p : ProblemParts = c.in_ok-part.part.problem.now in
    let none = no_prices g (goal.at.first_ascent-requires-clause-prices g c).After-as_slice in
    subst (AreWithin p.terms) (sym none) (zeros_within p.terms)

pub spent-requires : goal.spent-requires
spent-requires g c =
    let p : ProblemParts = c.in_ok-part.part.problem.now in
    few_prices p c.into_bound.result.prices.items c.in_ok-part.ensures.part.fits
    (subst (AreWithin p.terms)
    (sym (ap (λ (b : rounds.LowerBound). b.prices) c.into_bound.ensures)) c.ascend.ensures.ascent.kept)

pub returns-then-not-ascend : goal.returns-then-not-ascend
returns-then-not-ascend g c =
    let p : ProblemParts = c.in_ok-part.part.problem.now in
    let a : rounds.Ascent = ascent_of c.ascend.new.now c.ascend.new.ascent in
    let bound : rounds.LowerBound = bound_of c.into_bound.result in
    let spent = root_after g (goal.at.returns-then-not-ascend g c).After-ascend (rounds.spent a)
    (c.if-not-ascend.ensures.spent refl) in
    let t = told_by c.spent.result (result_after bound (walks.cut (progress_of c.ascend.new.now))) p c.args.problem.now
    c.args.budget c.args.steps.now c.ascend.new.steps c.in_ok-part.ensures.same c.terms.ensures.fits c.requires.some
    c.requires.reach c.requires.budget (spent_is p c.args.budget a bound spent c.into_bound.ensures)
    (omega (arith, c.ascend.ensures.steps, c.in_ok-now.ensures.none)) c.spent.ensures in
    record { found = t.0; shown = t.1; steps = t.2; few_steps = t.3 }

pub returns-in_err-tree-clause-few_steps : goal.returns-in_err-tree-clause-few_steps
returns-in_err-tree-clause-few_steps g c =
    let few = over_few c.in_ok-part.part.problem.now c.args.budget (ascent_of c.ascend.new.now c.ascend.new.ascent)
    (root_over g (goal.at.returns-in_err-tree-clause-few_steps g c).Else-not-ascend) c.ascend.ensures.now.within in
    let count = ap (λ (x : ProblemParts). (dual_result x c.args.budget).branches) c.in_ok-part.ensures.same in
    err_all c.from_residual-in_err-tree.result
    (omega (arith, c.ascend.ensures.steps, c.in_ok-now.ensures.none, few, count))

pub complete-requires : goal.complete-requires
complete-requires g c =
    incumbent_within c.in_ok-part.part.problem.now c.node_end.new.now.incumbent c.in_ok-part.ensures.part.fits
    c.node_end.ensures.now.incumbent

pub returns-in-Stop : goal.returns-in-Stop
returns-in-Stop g c =
    let p : ProblemParts = c.in_ok-part.part.problem.now in
    let at = goal.at.returns-in-Stop g c in
    let a : rounds.Ascent = ascent_of c.ascend.new.now c.ascend.new.ascent in
    let next : walks.Progress = progress_of c.node_end.new.now in
    let tree : walks.WalkedTree = plain_walked c.in-Stop.tree in
    let is = stop_is p c.args.budget a a.bound tree next (root_over g at.Else-not-ascend)
    (subst (λ (x : NodeEnd). EndIs p [] a next x) c.in-Stop.is (root_end g at.In_ok-tree)) in
    let t = told_by c.complete.result (result_after a.bound (walks.whole tree next)) p c.args.problem.now c.args.budget
    c.args.steps.now c.ascend.new.steps c.in_ok-part.ensures.same c.terms.ensures.fits c.requires.some c.requires.reach
    c.requires.budget is
    (omega (arith, c.ascend.ensures.steps, c.in_ok-now.ensures.none, c.node_end.ensures.branches)) c.complete.ensures in
    record { found = t.0; shown = t.1; steps = t.2; few_steps = t.3 }

pub fork-requires-clause-search : goal.fork-requires-clause-search
fork-requires-clause-search g c =
    record { part = c.in_ok-part.ensures.part; budget = c.requires.budget }

pub returns-in_err-tree-in-Fork-clause-few_steps : goal.returns-in_err-tree-in-Fork-clause-few_steps
returns-in_err-tree-in-Fork-clause-few_steps g c =
    let p : ProblemParts = c.in_ok-part.part.problem.now in
    let at = goal.at.returns-in_err-tree-in-Fork-clause-few_steps g c in
    let a : rounds.Ascent = ascent_of c.ascend.new.now c.ascend.new.ascent in
    let next : walks.Progress = progress_of c.node_end.new.now in
    let later : walks.Progress = progress_of c.fork.new.now in
    let bound : rounds.LowerBound = bound_of c.into_bound-bound.result in
    let few = fork_few p c.args.budget a bound next (root_over g at.Else-not-ascend) c.into_bound-bound.ensures
    c.in-Fork.pair later.branches
    (subst (λ (x : NodeEnd). EndIs p [] a next x) c.in-Fork.is (root_end g at.In_ok-tree))
    (λ d is. subst (λ (l : List SettledPair). later.branches
    ≤ counted (fork_at (searched p c.args.budget) most_forks d bound (pairs_of l) next)) c.new-settled.ensures.items
    (c.in_err-tree-in-Fork.ensures.few d is)) in
    let count = ap (λ (x : ProblemParts). (dual_result x c.args.budget).branches) c.in_ok-part.ensures.same in
    let made = c.ascend.ensures.steps in
    err_all c.from_residual-in_err-tree-in-Fork.result
    (omega (arith, made, c.in_ok-now.ensures.none, c.node_end.ensures.branches, c.fork.ensures.steps, few, count))

pub complete-requires-in-Some : goal.complete-requires-in-Some
complete-requires-in-Some g c =
    incumbent_within c.in_ok-part.part.problem.now c.fork.new.now.incumbent c.in_ok-part.ensures.part.fits
    c.fork.ensures.now.incumbent

pub returns-in-Some : goal.returns-in-Some
returns-in-Some g c =
    let p : ProblemParts = c.in_ok-part.part.problem.now in
    let later : walks.Progress = progress_of c.fork.new.now in
    let bound : rounds.LowerBound = bound_of c.into_bound-bound.result in
    let is = ap (λ (w : Option WalkedTree). result_of bound w later) (sym c.in-Some.is)
    ∙ forked g (goal.at.returns-in-Some g c).In_ok-tree-in-Fork in
    let made = c.ascend.ensures.steps in
    let t = told_by c.complete-in-Some.result (result_after bound (walks.whole (plain_walked c.in-Some.tree) later)) p
    c.args.problem.now c.args.budget c.args.steps.now c.fork.new.steps c.in_ok-part.ensures.same c.terms.ensures.fits
    c.requires.some c.requires.reach c.requires.budget is
    (omega (arith, made, c.in_ok-now.ensures.none, c.node_end.ensures.branches, c.fork.ensures.steps))
    c.complete-in-Some.ensures in
    record { found = t.0; shown = t.1; steps = t.2; few_steps = t.3 }

pub spent-requires-in-None : goal.spent-requires-in-None
spent-requires-in-None g c =
    let p : ProblemParts = c.in_ok-part.part.problem.now in
    few_prices p c.into_bound-bound.result.prices.items c.in_ok-part.ensures.part.fits
    (subst (AreWithin p.terms)
    (sym (ap (λ (b : rounds.LowerBound). b.prices) c.into_bound-bound.ensures)) c.ascend.ensures.ascent.kept)

pub returns : goal.returns
returns g c =
    let p : ProblemParts = c.in_ok-part.part.problem.now in
    let later : walks.Progress = progress_of c.fork.new.now in
    let bound : rounds.LowerBound = bound_of c.into_bound-bound.result in
    let is = ap (λ (w : Option WalkedTree). result_of bound w later) (sym c.in-None.is)
    ∙ forked g (goal.at.returns g c).In_ok-tree-in-Fork in
    let made = c.ascend.ensures.steps in
    let t = told_by c.spent-in-None.result (result_after bound (walks.cut later)) p c.args.problem.now c.args.budget
    c.args.steps.now c.fork.new.steps c.in_ok-part.ensures.same c.terms.ensures.fits c.requires.some c.requires.reach
    c.requires.budget is
    (omega (arith, made, c.in_ok-now.ensures.none, c.node_end.ensures.branches, c.fork.ensures.steps))
    c.spent-in-None.ensures in
    record { found = t.0; shown = t.1; steps = t.2; few_steps = t.3 }
