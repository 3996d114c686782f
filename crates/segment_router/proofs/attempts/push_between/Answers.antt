use Rattle.std.proofs.Common.{◌+◌, ◌++◌, ℕ, Bool, List, [], ◌∷◌, cond, drop, get_or, ap, ◌∙◌}
use Rattle.std.specs.List.{filter}
use Rattle.segment_router.specs.Routing.{is_between}
use Rattle.segment_router.proofs.AttemptLemmas.{filter_more}
use Rattle.segment_router.proofs.attempts.push_between.Goals as goal

pub loop-fineness-preserved : goal.loop-fineness-preserved
loop-fineness-preserved c =
    let test = is_between c.args.coarsest c.args.finest in
    let fineness = get_or c.args.all.now c.loop-fineness.fineness-index 0 in
    let so_far = c.loop-fineness.grids.items in
    ap (λ (gs : List ℕ). gs ++ filter test (drop (c.loop-fineness.fineness-index + 1) c.args.all.now))
    (c.in_ok-push_if.ensures ∙ ap (λ (b : Bool). so_far ++ cond b (fineness ∷ []) []) c.is_between.ensures)
    ∙ filter_more test c.args.all.now c.loop-fineness.fineness-index 0 so_far c.loop-fineness-test.true
    ∙ c.loop-fineness.invariant
