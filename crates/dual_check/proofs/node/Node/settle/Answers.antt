use Rattle.std.proofs.Common.{List, refl, subst, arith}
use Rattle.std.proofs.lemmas.List.{with_items_is}
use Rattle.dual_check.specs.declared.node.KnownShare.{KnownShare}
use Rattle.dual_check.specs.Nodes.{Forgets}
use Rattle.dual_check.proofs.NodeSteps.{node_settled}
use Rattle.dual_check.proofs.node.Node.settle.Goals as goal

pub returns-clause-node : goal.returns-clause-node
returns-clause-node c =
    node_settled c.args.asked.now c.args.self.now _ c.args.pair c.forget.new.shares c.requires.node c.requires.pair
    (subst (λ (l : List KnownShare). Forgets l c.forget.new.shares) c.as_mut_slice.ensures.value c.forget.ensures.fewer) c.forget.ensures.forgotten (omega (arith, c.forget.auto.shares, c.as_mut_slice.ensures.len))
    c.in_ok-push.ensures.items refl (with_items_is c.args.self.now.shares c.forget.new.shares (omega arith))
