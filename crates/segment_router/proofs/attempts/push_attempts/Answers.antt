use Rattle.std.proofs.Common.{◌+◌, ◌++◌, ℕ, List, drop, ap, ◌∙◌}
use Rattle.segment_router.specs.declared.attempts.Attempt.{Attempt}
use Rattle.segment_router.specs.Routing.{attempts_on}
use Rattle.start_positions.proofs.SpreadLemmas.{map_more}
use Rattle.segment_router.proofs.attempts.push_attempts.Goals as goal

pub loop-percent-preserved : goal.loop-percent-preserved
loop-percent-preserved c =
    let on : ℕ → Attempt = λ percent. record { fineness = c.args.fineness; percent = percent } in
    ap (λ (xs : List Attempt). xs ++ attempts_on (drop (c.loop-percent.percent-index + 1) c.args.percents.now) c.args.fineness) c.in_ok-push.ensures.items
    ∙ map_more on c.args.percents.now c.loop-percent.percent-index 0 c.loop-percent.attempts.items c.loop-percent-test.true
    ∙ c.loop-percent.invariant
