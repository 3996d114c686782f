use Rattle.std.proofs.Common.{refl, subst}
use Rattle.dual_check.specs.Nodes.{IsSo}
use Rattle.dual_check.proofs.NodeSteps.{node_kept}
use Rattle.dual_check.proofs.node.Node.keep.Goals as goal

pub returns-clause-node : goal.returns-clause-node
returns-clause-node c =
    node_kept c.args.asked.now c.args.self.now _ c.args.k c.known_share.result c.requires.node c.requires.known (subst (IsSo c.known_share.result) c.requires.share c.known_share.ensures) refl refl refl
