use Rattle.std.proofs.Common.{◌≡◌, ◌∙◌, ap, sym, refl, None, Ok, arith}
use Rattle.map_base.specs.Settings.{Choices}
use Rattle.order_terms.specs.Limits.{graph_problem}
use Rattle.graph_maps.specs.Problems.{problem_within}
use Rattle.graph_maps.specs.Checking.{first_disorder}
use Rattle.graph_maps.proofs.Importance.{have_importance}
use Rattle.graph_maps.proofs.HeldOrders.{orders_held}
use Rattle.graph_maps.proofs.CheckSteps.{orders_bounded, orders_fit}
use Rattle.graph_maps.proofs.checking.check_walks.Goals as goal

pub terms_of-requires-clause-importance : goal.terms_of-requires-clause-importance
terms_of-requires-clause-importance c =
    have_importance c.args.importance.now c.args.graph.now c.requires.numbers c.requires.lines

pub check_orders-requires : goal.check_orders-requires
check_orders-requires c =
    let graph = c.args.graph.now in
    let importance = c.args.importance.now in
    let lines = graph.lines in
    let orders = c.args.certificate.orders.lists in
    let none : first_disorder 0 lines orders ≡ None = ap (first_disorder 0 lines) (sym c.as_slice.ensures)
    ∙ sym c.first_disorder.ensures ∙ c.in_default.is in
    let held = orders_held lines orders 0 c.requires.range.orders
    (omega (arith, c.requires.range.orders_each, c.requires.segs, c.requires.fits.lines_each)) none in
    let made : problem_within importance c.args.settings.now graph ≡ Ok c.in_ok-problem.problem =
    ap (λ (choices : Choices). graph_problem graph choices.weights importance) (sym c.settings.view_is)
    ∙ c.in_ok-problem.ensures in
    orders_fit importance c.args.settings.now graph c.in_ok-problem.problem orders made held

pub returns-clause-accepted : goal.returns-clause-accepted
returns-clause-accepted c =
    let graph = c.args.graph.now in
    let importance = c.args.importance.now in
    let lines = graph.lines in
    let orders = c.args.certificate.orders.lists in
    let none : first_disorder 0 lines orders ≡ None = ap (first_disorder 0 lines) (sym c.as_slice.ensures)
    ∙ sym c.first_disorder.ensures ∙ c.in_default.is in
    let made : problem_within importance c.args.settings.now graph ≡ Ok c.in_ok-problem.problem =
    ap (λ (choices : Choices). graph_problem graph choices.weights importance) (sym c.settings.view_is)
    ∙ c.in_ok-problem.ensures in
    record {
      walks = refl;
      orders = refl;
      each = c.requires.range.walks_each ∙ c.requires.segs;
      legal = c.in_ok-check_drawing.ensures.legal;
      ordered = orders_held lines orders 0 c.requires.range.orders
          (omega (arith, c.requires.range.orders_each, c.requires.segs, c.requires.fits.lines_each)) none;
      bounded = orders_bounded importance c.args.settings.now graph c.in_ok-problem.problem orders
          c.args.certificate.cost c.in_ok-bound.bound made c.in_ok-bound.ensures.cost c.in_ok-bound.ensures.bound;
      claimed = c.in_ok-bound.ensures.claimed;
    }
