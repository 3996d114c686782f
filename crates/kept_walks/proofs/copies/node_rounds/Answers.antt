use Rattle.std.proofs.Common.{◌∙◌, ◌++◌, ◌∷◌, [], ap}
use Rattle.kept_walks.proofs.Lists.{copied_more}
use Rattle.kept_walks.proofs.copies.node_rounds.Goals as goal

pub loop-n-preserved : goal.loop-n-preserved
loop-n-preserved c =
    copied_more c.args.graph.now.rounds c.loop-n.rounds.items c.push.new.self.items c.loop-n.n c.round.result.now c.loop-n.invariant c.round.ensures
    (c.in_ok-push.ensures.items ∙ ap (λ copy. c.loop-n.rounds.items ++ copy ∷ []) c.in_ok-copy.ensures)
