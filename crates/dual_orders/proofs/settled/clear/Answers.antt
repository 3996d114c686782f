use Rattle.std.proofs.Common.{arith}
use Rattle.dual_orders.proofs.SettledStacks.{all_zero}
use Rattle.dual_orders.proofs.settled.clear.Goals as goal

pub returns : goal.returns
returns c = all_zero c.loop-j.ahead c.loop-j.j c.loop-j.invariant (omega arith)
