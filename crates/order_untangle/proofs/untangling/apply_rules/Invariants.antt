use Rattle.order_untangle.specs.Works.{parts_of, IsWork}
use Rattle.order_untangle.proofs.UntangleLemmas.{IsLeft}
use Rattle.order_untangle.proofs.untangling.apply_rules.Given as goal

abbrev pub invariant-loop-i : goal.invariant-loop-i
invariant-loop-i l = record {
  work : IsWork l.work.segs.items l.work.terms l.work.waiting.merges.keys l.work.waiting.divides.keys;
  left : IsLeft l.fn.problem l.rules l.i (parts_of l.work.segs.items l.work.terms);
}
