use Rattle.std.proofs.Common.{take}
use Rattle.dual_check.specs.Nodes.{Forgets, ArePricedOff}
use Rattle.dual_check.proofs.node.forget_priced.Given as goal

abbrev pub invariant-loop-price : goal.invariant-loop-price
invariant-loop-price l = record {
  fewer : Forgets l.fn.shares l.shares;
  off : ArePricedOff l.asked (take l.price-index l.prices) l.shares;
}
