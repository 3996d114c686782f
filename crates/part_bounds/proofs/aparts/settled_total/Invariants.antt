use Rattle.std.proofs.Common.{◌≡◌, ◌*◌, ◌≤◌, take}
use Rattle.order_model.specs.PartTerms.{terms_by_number}
use Rattle.pair_bounds.specs.Counted.{settled_sum}
use Rattle.part_bounds.proofs.aparts.settled_total.Given as goal

abbrev pub invariant-loop-n : goal.invariant-loop-n
invariant-loop-n l = (l.total ≡ settled_sum l.problem.segs l.prefix.placed (terms_by_number l.problem.terms (take l.n-index l.numbers))) × (l.total ≤ 256000 * l.n-index)
