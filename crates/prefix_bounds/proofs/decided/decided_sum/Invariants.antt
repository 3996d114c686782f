use Rattle.std.proofs.Common.{◌≡◌, ◌*◌, ◌≤◌, take}
use Rattle.order_model.specs.PartTerms.{part_terms}
use Rattle.order_bound.specs.Decided.{decided_sum}
use Rattle.prefix_bounds.proofs.decided.decided_sum.Given as goal

abbrev pub invariant-loop-number : goal.invariant-loop-number
invariant-loop-number l = (l.sum ≡ decided_sum l.problem.segs l.prefix.placed (part_terms (take l.number l.problem.terms) l.part)) × (l.sum ≤ 256000 * l.number)
