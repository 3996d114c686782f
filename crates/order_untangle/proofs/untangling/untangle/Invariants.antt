use Rattle.std.specs.List.{sum_by}
use Rattle.order_model.specs.Problems.{choices}
use Rattle.order_untangle.specs.Works.{parts_of, IsWork}
use Rattle.order_untangle.proofs.UntangleLemmas.{IsSoFar}
use Rattle.order_untangle.proofs.untangling.untangle.Given as goal

abbrev pub invariant-loop-rules : goal.invariant-loop-rules
invariant-loop-rules l = record {
  work : IsWork l.work.segs.items l.work.terms l.work.waiting.merges.keys l.work.waiting.divides.keys;
  so_far : IsSoFar l.fn.problem (parts_of l.work.segs.items l.work.terms) l.rules.items;
}

abbrev pub decreases-loop-rules : goal.decreases-loop-rules
decreases-loop-rules l = sum_by choices l.work.segs.items
