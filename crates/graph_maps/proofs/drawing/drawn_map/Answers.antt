use Rattle.std.proofs.Common.{◌≡◌, ◌∙◌, sym, ap, subst, Result, Ok}
use Rattle.std.proofs.lemmas.Result.{err_from_is_err_and}
use Rattle.map_base.specs.declared.limit.Limit.{Limit}
use Rattle.map_base.specs.Settings.{Choices}
use Rattle.map_base.specs.Faults as terms
use Rattle.map_method.specs.declared.drawing_plan.DrawingPlan.{DrawingPlan}
use Rattle.order_model.specs.declared.problem.ProblemParts.{ProblemParts}
use Rattle.order_terms.specs.Limits.{graph_problem}
use Rattle.kept_walks.specs.Drawings.{drawing_outcome}
use Rattle.segment_router.specs.Routing as routing
use Rattle.graph_maps.specs.Problems.{problem_within}
use Rattle.graph_maps.proofs.Importance.{have_importance}
use Rattle.graph_maps.proofs.MadeProblem.{problem_is}
use Rattle.graph_maps.proofs.DrawingLemmas.{not_routed, not_counted, drawn_is}
use Rattle.graph_maps.proofs.drawing.drawn_map.Goals as goal

pub terms_of-requires-clause-light : goal.terms_of-requires-clause-light
terms_of-requires-clause-light c = c.settings.invariant.weights

pub terms_of-requires-clause-importance : goal.terms_of-requires-clause-importance
terms_of-requires-clause-importance c =
    have_importance c.args.importance.now c.args.graph.now c.requires.numbers c.requires.lines

pub returns-clause-outcome : goal.returns-clause-outcome
returns-clause-outcome c =
    let graph = c.args.graph.now in
    let importance = c.args.importance.now in
    let choices = c.args.settings.now in
    let routed = subst (λ (p : DrawingPlan). drawing_outcome graph p ≡ Ok c.in_ok-drawing.drawing.walks)
    c.drawing_plan.ensures.plan c.in_ok-drawing.ensures.drawing in
    let counted : problem_within importance choices graph ≡ Ok c.in_ok-problem.problem =
    sym (ap (λ (s : Choices). graph_problem graph s.weights importance) c.settings.view_is) ∙ c.in_ok-problem.ensures in
    drawn_is importance choices c.args.method.now graph c.in_ok-drawing.drawing.walks c.in_ok-problem.problem routed
    counted

pub returns-clause-problem : goal.returns-clause-problem
returns-clause-problem c =
    let graph = c.args.graph.now in
    let importance = c.args.importance.now in
    let choices = c.args.settings.now in
    let counted : problem_within importance choices graph ≡ Ok c.in_ok-problem.problem =
    sym (ap (λ (s : Choices). graph_problem graph s.weights importance) c.settings.view_is) ∙ c.in_ok-problem.ensures in
    problem_is importance choices graph c.in_ok-problem.problem counted

pub returns-in_err-drawing-clause-outcome : goal.returns-in_err-drawing-clause-outcome
returns-in_err-drawing-clause-outcome c =
    let graph = c.args.graph.now in
    let stop = c.in_err-drawing.field-0.0 in
    let cause = subst (λ (p : DrawingPlan). routing.HasCause (drawing_outcome graph p) stop)
    c.drawing_plan.ensures.plan c.in_err-drawing.ensures.cause in
    let same = err_from_is_err_and c.from_residual.result c.from_residual.ensures.1 in
    rw (same.1, same.2) (not_routed c.args.importance.now c.args.settings.now c.args.method.now graph stop cause)

pub returns-in_err-problem-clause-outcome : goal.returns-in_err-problem-clause-outcome
returns-in_err-problem-clause-outcome c =
    let graph = c.args.graph.now in
    let importance = c.args.importance.now in
    let choices = c.args.settings.now in
    let stop = c.in_err-problem.field-0.0 in
    let routed = subst (λ (p : DrawingPlan). drawing_outcome graph p ≡ Ok c.in_ok-drawing.drawing.walks)
    c.drawing_plan.ensures.plan c.in_ok-drawing.ensures.drawing in
    let counted : graph_problem graph c.settings.inside.weights importance ≡ problem_within importance choices graph =
    ap (λ (s : Choices). graph_problem graph s.weights importance) c.settings.view_is in
    let cause = subst (λ (o : Result ProblemParts Limit). terms.HasCause o stop) counted c.in_err-problem.ensures in
    let same = err_from_is_err_and c.from_residual-in_err-problem.result c.from_residual-in_err-problem.ensures.1 in
    rw (same.1, same.2) (not_counted importance choices c.args.method.now graph c.in_ok-drawing.drawing.walks stop
    routed cause)
