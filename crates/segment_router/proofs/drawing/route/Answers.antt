use Rattle.std.proofs.Common.{◌≡◌, ◌∙◌, sym, subst, List, Ok}
use Rattle.std.specs.List.{AllByRecursion}
use Rattle.std.specs.Result.{IfOk, IfErr}
use Rattle.segment_router.specs.declared.attempts.Attempt.{Attempt}
use Rattle.segment_router.specs.Routing.{outcome_of, HasCause, IsAttempt}
use Rattle.segment_router.proofs.AttemptLemmas.{attempts_fit}
use Rattle.segment_router.proofs.drawing.route.Goals as goal

pub draw-requires : goal.draw-requires
draw-requires c = subst (AllByRecursion IsAttempt) (sym (c.deref.ensures.value ∙ c.in_ok-attempts.ensures)) (attempts_fit c.args.plan c.requires)

pub returns-clause-drawing : goal.returns-clause-drawing
returns-clause-drawing c =
    subst (λ (xs : List Attempt). IfOk c.draw.result (λ d. outcome_of c.args.graph.now c.args.plan.cell xs ≡ Ok d.walks)) (c.deref.ensures.value ∙ c.in_ok-attempts.ensures) c.draw.ensures.drawing

pub returns-clause-cause : goal.returns-clause-cause
returns-clause-cause c =
    subst (λ (xs : List Attempt). IfErr c.draw.result (λ fault. HasCause (outcome_of c.args.graph.now c.args.plan.cell xs) fault)) (c.deref.ensures.value ∙ c.in_ok-attempts.ensures) c.draw.ensures.cause
