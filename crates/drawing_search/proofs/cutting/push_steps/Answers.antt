use Rattle.std.proofs.Common.{◌++◌, ◌∷◌, [], List, append_assoc, replicate, ap, ◌∙◌}
use Rattle.drawing_search.proofs.Common.{replicate_more, Dir}
use Rattle.drawing_search.proofs.cutting.push_steps.Goals as goal

pub loop-preserved : goal.loop-preserved
loop-preserved c =
    let old = c.args.steps.now.items in
    let d = c.args.run.dir in
    c.in_ok-push.ensures.items
    ∙ ap (λ (ds : List Dir). ds ++ d ∷ []) c.loop.invariant
    ∙ append_assoc old (replicate c.loop.counter d) (d ∷ [])
    ∙ ap (λ (ds : List Dir). old ++ ds) (replicate_more c.loop.counter d)
