use Rattle.std.proofs.Common.{refl, arith}
use Rattle.order_check.proofs.Nodes.{not_of_part}
use Rattle.order_check.proofs.node.is_split.Goals as goal

pub returns-then-s-asked : goal.returns-then-s-asked
returns-then-s-asked c = rw (not_of_part c.args.asked.now.part.now _ c.args.s c.requires.asked.known (omega (arith, c.if-s-asked.true, c.requires.asked.numbers.each))) refl
