use Rattle.std.proofs.Common.{◌∙◌, ◌++◌, ◌∷◌, [], ap}
use Rattle.kept_walks.proofs.Lists.{copied_more}
use Rattle.kept_walks.proofs.copies.node_joins.Goals as goal

pub loop-n-preserved : goal.loop-n-preserved
loop-n-preserved c =
    copied_more c.args.graph.now.joins c.loop-n.joins.items c.push.new.self.items c.loop-n.n c.joins.result.now c.loop-n.invariant c.joins.ensures
    (c.in_ok-push.ensures.items ∙ ap (λ copy. c.loop-n.joins.items ++ copy ∷ []) c.in_ok-copy.ensures)
