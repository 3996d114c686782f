use Rattle.std.proofs.Common.{sym, arith}
use Rattle.order_check.proofs.Nodes.{other_lengths}
use Rattle.order_check.proofs.part.are_same.Goals as goal

pub returns-then-some-others : goal.returns-then-some-others
returns-then-some-others c = sym (other_lengths c.args.some.now c.args.others.now (λ e. omega (arith, e, c.if-some-others.true)))
