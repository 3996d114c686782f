use Rattle.std.proofs.Common.{◌+◌, ◌*◌}
use Rattle.kept_trees.proofs.walk.+walk.Given as goal

-- a fork has one node less below it
abbrev pub decreases-walk : goal.decreases-walk
decreases-walk g l = 3 * l.room + 1

abbrev pub decreases-fork : goal.decreases-fork
decreases-fork g l = 3 * l.room

abbrev pub decreases-walk_with : goal.decreases-walk_with
decreases-walk_with g l = 3 * l.room + 2
