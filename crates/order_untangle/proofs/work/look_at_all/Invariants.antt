use Rattle.order_untangle.specs.Waits.{AreLooked}
use Rattle.order_untangle.proofs.work.look_at_all.Given as goal

abbrev pub invariant-loop-s : goal.invariant-loop-s
invariant-loop-s l = AreLooked l.terms.terms l.s l.waiting.merges.keys l.waiting.divides.keys
