use Rattle.std.proofs.Common.{◌≡◌, ◌*◌, ◌≤◌, take}
use Rattle.std.specs.List.{sum_by}
use Rattle.pair_bounds.specs.Counted.{settled_cost}
use Rattle.part_bounds.proofs.aparts.settled_of.Given as goal

abbrev pub invariant-loop-term : goal.invariant-loop-term
invariant-loop-term l = (l.total ≡ sum_by (settled_cost l.problem.segs l.prefix.placed) (take l.term-index l.aparts)) × (l.total ≤ 256000 * l.term-index)
