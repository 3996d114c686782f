use Rattle.std.proofs.Common.{◌+◌, ◌++◌, List, drop, ap, ◌∙◌}
use Rattle.std.specs.List.{flat_map}
use Rattle.segment_router.specs.declared.attempts.Attempt.{Attempt}
use Rattle.segment_router.specs.Routing.{attempts_on}
use Rattle.segment_router.proofs.AttemptLemmas.{flat_more}
use Rattle.segment_router.proofs.attempts.attempts_on_each.Goals as goal

pub loop-fineness-preserved : goal.loop-fineness-preserved
loop-fineness-preserved c =
    let on = attempts_on c.args.percents.now in
    ap (λ (xs : List Attempt). xs ++ flat_map on (drop (c.loop-fineness.fineness-index + 1) c.args.grids.now)) c.in_ok-push_attempts.ensures
    ∙ flat_more on c.args.grids.now c.loop-fineness.fineness-index 0 c.loop-fineness.attempts.items c.loop-fineness-test.true
    ∙ c.loop-fineness.invariant
