use Rattle.std.proofs.Common.{ℕ, ℤ, List, length, sym, ◌∙◌, ap, subst, arith}
use Rattle.dual_ascent.specs.OwnNumbers.{listed}
use Rattle.dual_ascent.specs.Walks.{stopped, whole}
use Rattle.dual_orders.specs.SettledPairs.{pairs_of}
use Rattle.kept_trees.specs.Searching.{ascent_of, progress_of}
use Rattle.kept_trees.proofs.Composing.{few_prices}
use Rattle.kept_trees.proofs.Walking.{node_shown}
use Rattle.kept_trees.proofs.Forking.{next_on}
use Rattle.order_model.specs.declared.problem.ProblemParts.{ProblemParts}
use Rattle.dual_ascent.specs.Averages.{ArePairs}
use Rattle.dual_rounds.specs.Ranges.{averages_of}
use Rattle.kept_trees.proofs.walk.node_end.Goals as goal

pub listed-requires : goal.listed-requires
listed-requires c =
    let few = few_prices c.args.search.now.part.problem.now c.args.ascent.now.kept.items c.requires.search.part.fits
    c.requires.ascent.kept in
    let same = ap length c.as_slice.ensures.value in
    omega (arith, few, same)

pub returns-then-is_shown-clause-end : goal.returns-then-is_shown-clause-end
returns-then-is_shown-clause-end c =
    let is = c.in_ok-prices.ensures ∙ ap listed c.as_slice.ensures.value in
    λ below. node_shown c.args.search.now.part.problem.now (pairs_of c.args.settled.now)
    (ascent_of c.args.now.now c.args.ascent.now) below (sym c.if-is_shown.ensures)
    ∙ ap (λ (l : List (ℕ × ℤ)). whole (stopped l) (progress_of c.args.now.now)) (sym is)

pub returns-in-Some-clause-pair : goal.returns-in-Some-clause-pair
returns-in-Some-clause-pair c =
    let p : ProblemParts = c.args.search.now.part.problem.now in
    next_on p (pairs_of c.args.settled.now)
    (averages_of c.as_slice-averages.result.now) c.in-Some.pair c.requires.search.part.fits.rising
    (subst (λ l. ArePairs p (averages_of l)) (sym c.as_slice-averages.ensures.value) c.requires.ascent.pairs)
    c.in-Some.ensures.pair
