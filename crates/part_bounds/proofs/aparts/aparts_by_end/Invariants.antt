use Rattle.std.proofs.Common.{take, length}
use Rattle.order_model.specs.PartTerms.{terms_by_number}
use Rattle.part_bounds.specs.Settled.{lists_in, AreByEnds}
use Rattle.part_bounds.proofs.aparts.aparts_by_end.Given as goal

abbrev pub invariant-loop-n : goal.invariant-loop-n
invariant-loop-n l = AreByEnds (length l.problem.segs) (terms_by_number l.problem.terms (take l.n-index l.numbers)) (lists_in l.lists.items)
