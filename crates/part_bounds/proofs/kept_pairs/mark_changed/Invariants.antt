use Rattle.part_bounds.specs.Kept.{AreMarked}
use Rattle.part_bounds.proofs.kept_pairs.mark_changed.Given as goal

abbrev pub invariant-loop-place : goal.invariant-loop-place
invariant-loop-place l = AreMarked l.change l.pairs l.place l.fn.stale.items l.stale.items
