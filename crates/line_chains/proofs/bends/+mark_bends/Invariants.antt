use Rattle.std.proofs.Common.{length}
use Rattle.line_chains.proofs.bends.+mark_bends.Given as goal

abbrev pub decreases-mark_bends : goal.decreases-mark_bends
decreases-mark_bends l = length l.nodes.now
