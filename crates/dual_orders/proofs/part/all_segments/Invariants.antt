use Rattle.std.proofs.Common.{◌≡◌, take}
use Rattle.dual_ascent.specs.OwnNumbers.{all_segments}
use Rattle.dual_orders.proofs.part.all_segments.Given as goal

abbrev pub invariant-loop-s : goal.invariant-loop-s
invariant-loop-s l = l.segments.items ≡ take l.s (all_segments l.problem)
