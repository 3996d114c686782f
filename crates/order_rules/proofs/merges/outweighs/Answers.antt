use Rattle.std.proofs.Common.{◌∙◌}
use Rattle.order_rules.proofs.MergeGains.{outweighs_by}
use Rattle.order_rules.proofs.merges.outweighs.Goals as goal

pub returns : goal.returns
returns c =
    c.outweigh.ensures
    ∙ outweighs_by c.args.into c.args.from c.args.terms.now c.args.a c.args.b c.weights_of-weights.result c.weights_of-weights.ensures
