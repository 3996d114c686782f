use Rattle.std.proofs.Common.{drop, sym, ◌∙◌}
use Rattle.segment_router.proofs.AttemptLemmas.{drawn_now}
use Rattle.segment_router.proofs.drawing.first_drawn.Goals as goal

pub returns-then-is_ok : goal.returns-then-is_ok
returns-then-is_ok c =
    sym (drawn_now c.args.graph.now c.args.cell c.loop-attempt.outcome (drop c.loop-attempt.attempt-index c.args.attempts.now) (sym c.is_ok.ensures.value ∙ c.if-is_ok.true))
    ∙ c.loop-attempt.invariant
