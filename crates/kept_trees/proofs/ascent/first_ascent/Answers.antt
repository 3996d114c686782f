use Rattle.std.proofs.Common.{◌≡◌, length, map, rules, ◌∙◌, ap}
use Rattle.order_model.specs.declared.problem.ProblemParts.{ProblemParts}
use Rattle.dual_ascent.specs.OwnNumbers.{zeros}
use Rattle.dual_ascent.specs.Averages.{never_all, no_averages}
use Rattle.dual_rounds.specs.Ranges.{averages_of}
use Rattle.dual_orders.specs.Values.{incumbent_of}
use Rattle.kept_trees.specs.Searching.{search_of}
use Rattle.kept_trees.proofs.Beginning.{zeros_as_many, first_is}
use Rattle.kept_trees.proofs.ascent.first_ascent.Goals as goal

pub returns-clause-first : goal.returns-clause-first
returns-clause-first c =
    let p : ProblemParts = c.args.search.now.part.problem.now in
    let still : c.in_ok-directions.directions.items ≡ zeros p =
    c.in_ok-directions.ensures.items_if_clones_equal (search rules)
    ∙ zeros_as_many p.terms (length c.terms.result.now) (ap length c.terms.ensures.list) in
    let averages : averages_of c.in_ok-no_averages.field-0.items ≡ no_averages p = c.in_ok-no_averages.ensures.value
    ∙ ap (map never_all) c.segs-segs.ensures.lists in
    λ now. first_is (search_of c.args.search.now) c.args.prices.now
    (incumbent_of now.incumbent) now.branches c.in_ok-from_slice.field-0.items c.in_ok-directions.directions.items
    c.in_ok-from_slice-2.field-0.items
    (averages_of c.in_ok-no_averages.field-0.items) c.in_ok-from_slice.ensures.items still
    c.in_ok-from_slice-2.ensures.items averages
