use Rattle.std.proofs.Common.{◌≡◌, take}
use Rattle.kept_walks.proofs.copies.copy_of_walks.Given as goal

-- the walks so far
abbrev pub invariant-loop-walk : goal.invariant-loop-walk
invariant-loop-walk l = l.copies.items ≡ take l.walk-index l.walks
