use Rattle.std.proofs.Common.{List, All, Contains, sym, ap, subst, Ok, Err, arith}
use Rattle.std.proofs.lemmas.List.Elements.{All-contains_itself}
use Rattle.std.proofs.lemmas.Result.{err_from_is_err_and}
use Rattle.map_base.specs.declared.ids.LineId.{LineId}
use Rattle.map_method.specs.Methods.{MethodChoices}
use Rattle.order_model.specs.declared.problem.ProblemParts.{ProblemParts}
use Rattle.kept_trees.specs.declared.plan.SearchPlan.{SearchPlan}
use Rattle.kept_trees.specs.OwnTrees.{HeldPart}
use Rattle.order_model.specs.Costs.{AreOrders}
use Rattle.graph_maps.specs.Subjects.{told_by}
use Rattle.graph_maps.specs.declared.best_orders.BestOrders.{BestOrders}
use Rattle.graph_maps.specs.declared.improvement.ImprovedMap.{ImprovedMap}
use Rattle.graph_maps.specs.Problems.{drawn_on, untangled_problem}
use Rattle.graph_maps.specs.Moving.{after_moves}
use Rattle.graph_maps.specs.Solving.{solve_outcome}
use Rattle.graph_maps.specs.Keeping.{finished_on, HoldsFinished}
use Rattle.graph_maps.specs.Making.{plan_of, HasCause}
use Rattle.graph_maps.specs.Improving.{ImprovedBytes, improved_map}
use Rattle.graph_maps.specs.Stages.{drawn_of, Finds, IsWritten}
use Rattle.graph_maps.specs.Promises.{IsMadeOn}
use Rattle.graph_maps.proofs.MadeLemmas.{outcome_is, solved_is, not_drawn, not_solved}
use Rattle.graph_maps.proofs.MovedDrawings.{whole_moved}
use Rattle.graph_maps.proofs.KeepLemmas.{steps_left, finished_is, nothing_finished, same_held}
use Rattle.graph_maps.proofs.Promised.{whole_is}
use Rattle.graph_maps.proofs.CertificateRanges.{made_by}
use Rattle.graph_maps.proofs.making.make_improved_from.Goals as goal

pub returns-in_err-drawing-clause-outcome : goal.returns-in_err-drawing-clause-outcome
returns-in_err-drawing-clause-outcome g c =
    let same = err_from_is_err_and c.from_residual.result c.from_residual.ensures.1 in
    rw (same.1, same.2) (not_drawn ImprovedBytes (improved_map (told_by c.args.names.now c.args.importance.now)
    c.args.moves) c.args.settings.now c.args.method.now
    (drawn_on c.args.importance.now c.args.settings.now c.args.method.now c.args.graph.now) c.in_err-drawing.field-0.0
    c.in_err-drawing.ensures.outcome)

pub returns-in_err-best-clause-outcome : goal.returns-in_err-best-clause-outcome
returns-in_err-best-clause-outcome g c =
    let e = c.in_err-best.field-0.0 in
    let p = c.in_ok-drawing.problem in
    let cause = subst (λ (plan : SearchPlan). HasCause (solve_outcome plan (untangled_problem p)) e)
    c.plan_of.ensures.plan c.in_err-best.ensures.found in
    let same = err_from_is_err_and c.from_residual-in_err-best.result c.from_residual-in_err-best.ensures.1 in
    rw (same.1, same.2) (not_solved ImprovedBytes (improved_map (told_by c.args.names.now c.args.importance.now)
    c.args.moves) c.args.settings.now c.args.method.now
    (drawn_on c.args.importance.now c.args.settings.now c.args.method.now c.args.graph.now)
    (drawn_of c.args.graph.now (c.in_ok-drawing.drawing, p)) e c.in_ok-drawing.ensures.outcome cause)

pub returns-in_err-best-clause-steps : goal.returns-in_err-best-clause-steps
returns-in_err-best-clause-steps g c = steps_left c.args.kept.now (plan_of c.args.settings.now c.args.method.now) _
    (drawn_on c.args.importance.now c.args.settings.now c.args.method.now c.args.graph.now)
    (drawn_of c.args.graph.now (c.in_ok-drawing.drawing, c.in_ok-drawing.problem)) c.args.steps.now
    c.best_orders.new.steps c.in_ok-drawing.ensures.outcome c.plan_of.ensures.plan c.best_orders.ensures.steps

pub returns-in_err-moved_map-clause-steps : goal.returns-in_err-moved_map-clause-steps
returns-in_err-moved_map-clause-steps g c = steps_left c.args.kept.now (plan_of c.args.settings.now c.args.method.now) _
    (drawn_on c.args.importance.now c.args.settings.now c.args.method.now c.args.graph.now)
    (drawn_of c.args.graph.now (c.in_ok-drawing.drawing, c.in_ok-drawing.problem)) c.args.steps.now
    c.best_orders.new.steps c.in_ok-drawing.ensures.outcome c.plan_of.ensures.plan c.best_orders.ensures.steps

pub returns-clause-steps : goal.returns-clause-steps
returns-clause-steps g c = steps_left c.args.kept.now (plan_of c.args.settings.now c.args.method.now) _
    (drawn_on c.args.importance.now c.args.settings.now c.args.method.now c.args.graph.now)
    (drawn_of c.args.graph.now (c.in_ok-drawing.drawing, c.in_ok-drawing.problem)) c.args.steps.now
    c.best_orders.new.steps c.in_ok-drawing.ensures.outcome c.plan_of.ensures.plan c.best_orders.ensures.steps

pub returns-in_err-drawing-clause-kept : goal.returns-in_err-drawing-clause-kept
returns-in_err-drawing-clause-kept g c = All-contains_itself c.args.kept.now

pub returns-in_err-drawing-clause-finished : goal.returns-in_err-drawing-clause-finished
returns-in_err-drawing-clause-finished g c =
    let same = err_from_is_err_and c.from_residual.result c.from_residual.ensures.1 in
    rw (same.1, same.2) (nothing_finished ImprovedMap (plan_of c.args.settings.now c.args.method.now)
    (drawn_on c.args.importance.now c.args.settings.now c.args.method.now c.args.graph.now) c.args.kept.now
    c.in_err-drawing.field-0.0 c.in_err-drawing.ensures.outcome)

pub returns-in_err-best-clause-finished : goal.returns-in_err-best-clause-finished
returns-in_err-best-clause-finished g c =
    let e = c.in_err-best.field-0.0 in
    let held = c.best_orders.new.kept in
    let parts = finished_on c.args.importance.now c.args.settings.now c.args.method.now c.args.graph.now in
    let of_graph = subst (λ (ps : List HeldPart). HoldsFinished {X = BestOrders} (Err e) ps held)
    (finished_is (plan_of c.args.settings.now c.args.method.now) _
    (drawn_on c.args.importance.now c.args.settings.now c.args.method.now c.args.graph.now)
    (drawn_of c.args.graph.now (c.in_ok-drawing.drawing, c.in_ok-drawing.problem)) c.in_ok-drawing.ensures.outcome
    c.plan_of.ensures.plan) c.in_err-best.ensures.finished in
    let same = err_from_is_err_and c.from_residual-in_err-best.result c.from_residual-in_err-best.ensures.1 in
    rw (same.1, same.2) (same_held BestOrders ImprovedMap e parts held of_graph)

pub returns-clause-finished : goal.returns-clause-finished
returns-clause-finished g c = subst (λ (parts : List HeldPart). All (Contains c.best_orders.new.kept) parts)
    (finished_is (plan_of c.args.settings.now c.args.method.now) _
    (drawn_on c.args.importance.now c.args.settings.now c.args.method.now c.args.graph.now)
    (drawn_of c.args.graph.now (c.in_ok-drawing.drawing, c.in_ok-drawing.problem)) c.in_ok-drawing.ensures.outcome
    c.plan_of.ensures.plan) c.in_ok-best.ensures.finished

pub moved_map-requires-clause-orders : goal.moved_map-requires-clause-orders
moved_map-requires-clause-orders g c =
    subst (λ (segs : List (List LineId)). AreOrders segs c.in_ok-best.best.orders.lists)
    (ap (λ (p : ProblemParts). p.segs) c.in_ok-drawing.ensures.problem) c.in_ok-best.ensures.orders

pub returns-clause-outcome : goal.returns-clause-outcome
returns-clause-outcome g c =
    let subject = told_by c.args.names.now c.args.importance.now in
    let graph = c.args.graph.now in
    let drawing = c.in_ok-drawing.drawing in
    let p = c.in_ok-drawing.problem in
    let best = c.in_ok-best.best in
    let improved = c.in_ok-moved_map.field-0 in
    let found = subst (λ (q : SearchPlan). Finds q p (Ok best) (solve_outcome q (untangled_problem p)))
    c.plan_of.ensures.plan c.in_ok-best.ensures.found in
    let written = subst (λ (m : MethodChoices). IsWritten subject graph drawing.walks best m.moves c.args.moves
    improved) c.method.view_is c.in_ok-moved_map.ensures in
    outcome_is subject c.args.settings.now c.args.method.now
    (drawn_on c.args.importance.now c.args.settings.now c.args.method.now graph) (drawn_of graph (drawing, p))
    best found.0 c.args.moves improved c.in_ok-drawing.ensures.outcome found.1 found.2 written

pub returns-clause-improved : goal.returns-clause-improved
returns-clause-improved g c =
    let importance = c.args.importance.now in
    let subject = told_by c.args.names.now importance in
    let choices = c.args.settings.now in
    let method = c.args.method.now in
    let graph = c.args.graph.now in
    let plan = plan_of choices method in
    let drawing = c.in_ok-drawing.drawing in
    let p = c.in_ok-drawing.problem in
    let drawn = drawn_of graph (drawing, p) in
    let best = c.in_ok-best.best in
    let improved = c.in_ok-moved_map.field-0 in
    let found = subst (λ (q : SearchPlan). Finds q p (Ok best) (solve_outcome q (untangled_problem p)))
    c.plan_of.ensures.plan c.in_ok-best.ensures.found in
    let written = subst (λ (m : MethodChoices). IsWritten subject graph drawing.walks best m.moves c.args.moves
    improved) c.method.view_is c.in_ok-moved_map.ensures in
    let is_drawing = c.in_ok-drawing.ensures.drawing in
    let whole = whole_is importance choices method graph drawn best found.0 c.in_ok-drawing.ensures.outcome
    is_drawing.each is_drawing.legal c.in_ok-drawing.ensures.problem c.in_ok-drawing.ensures.problem_fits found.1
    found.2 in
    let last = after_moves c.args.moves (after_moves method.moves drawn) in
    record {
      made = subst (IsMadeOn subject choices method.claim graph) (sym written.map)
          (made_by plan subject choices last best found.0
          (whole_moved plan importance choices drawn found.0 method.moves c.args.moves whole written.drawing)
          written.drawing c.requires.lines c.requires.few c.requires.numbers found.2);
      no_heavier = written.no_heavier;
      solved = record { drawn = after_moves method.moves drawn; parts = found.0 };
      of_graph = solved_is choices method (drawn_on importance choices method graph) drawn found.0
          c.in_ok-drawing.ensures.outcome found.1;
      to_the_end = written.to_the_end;
    }
