use Rattle.std.proofs.Common.{◌∙◌, ap, rules, w64, FitsSigned, Some}
use Rattle.std.proofs.lemmas.Int.{to_z-of_z}
use Rattle.dual_check.proofs.NodeSteps.{known_none, known_some}
use Rattle.dual_check.proofs.value.share_at.Goals as goal

pub returns-in-NoOrder-clause-share : goal.returns-in-NoOrder-clause-share
returns-in-NoOrder-clause-share c = known_none c.args.asked.now c.args.node.now c.args.k c.index.result.now c.requires.node c.requires.known c.index.ensures c.in-NoOrder.is

pub returns-in-Least-clause-share : goal.returns-in-Least-clause-share
returns-in-Least-clause-share c =
    let fits : FitsSigned w64 c.in-Least.share = search rules in
    ap Some (to_z-of_z w64 c.in-Least.share fits)
    ∙ known_some c.args.asked.now c.args.node.now c.args.k c.index.result.now c.in-Least.share c.requires.node c.requires.known c.index.ensures c.in-Least.is
