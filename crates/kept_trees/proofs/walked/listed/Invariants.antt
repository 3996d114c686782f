use Rattle.std.proofs.Common.{◌≡◌, take}
use Rattle.dual_ascent.specs.OwnNumbers.{listed}
use Rattle.kept_trees.proofs.walked.listed.Given as goal

abbrev pub invariant-loop-k : goal.invariant-loop-k
invariant-loop-k l = l.list.items ≡ listed (take l.k l.prices)
