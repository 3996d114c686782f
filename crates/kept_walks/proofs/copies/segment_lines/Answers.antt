use Rattle.std.proofs.Common.{◌∙◌, ◌++◌, ◌∷◌, [], ap}
use Rattle.kept_walks.proofs.Lists.{copied_more}
use Rattle.kept_walks.proofs.copies.segment_lines.Goals as goal

pub loop-s-preserved : goal.loop-s-preserved
loop-s-preserved c =
    copied_more c.args.graph.now.lines c.loop-s.lines.items c.push.new.self.items c.loop-s.s c.lines.result.now c.loop-s.invariant c.lines.ensures
    (c.in_ok-push.ensures.items ∙ ap (λ copy. c.loop-s.lines.items ++ copy ∷ []) c.in_ok-copy.ensures)
