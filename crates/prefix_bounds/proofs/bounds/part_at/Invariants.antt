use Rattle.order_model.specs.PartTerms.{part_terms}
use Rattle.prefix_bounds.proofs.Filled.{IsFilledTo}
use Rattle.prefix_bounds.proofs.bounds.part_at.Given as goal

abbrev pub invariant-loop-seg : goal.invariant-loop-seg
invariant-loop-seg l = IsFilledTo l.seg l.problem.segs l.part (part_terms l.problem.terms l.part) l.prefix.placed l.bounds
