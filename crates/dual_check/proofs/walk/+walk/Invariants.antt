use Rattle.std.proofs.Common.{◌+◌, ◌*◌, ◌-◌}
use Rattle.order_values.specs.DualTrees.{plain_dual, stops_of}
use Rattle.dual_check.proofs.walk.+walk.Given as goal

-- a case of a fork has fewer stops than the fork
abbrev pub decreases-walk : goal.decreases-walk
decreases-walk l = 3 * stops_of (plain_dual l.tree.now)

abbrev pub decreases-walk_fork : goal.decreases-walk_fork
decreases-walk_fork l = 3 * (stops_of (plain_dual l.first.now) + stops_of (plain_dual l.second.now)) - 1

abbrev pub decreases-walk_case : goal.decreases-walk_case
decreases-walk_case l = 3 * stops_of (plain_dual l.tree.now) + 1
