use Rattle.std.proofs.Common.{ap}
use Rattle.order_values.specs.DualTrees.{plain_dual}
use Rattle.order_proof.proofs.dual_reading.new_fork.Goals as goal

pub returns : goal.returns
returns c = ap plain_dual c.in_ok-tree.ensures.ok
