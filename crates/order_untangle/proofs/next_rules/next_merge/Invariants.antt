use Rattle.std.proofs.Common.{length}
use Rattle.order_untangle.specs.Waits.{AllWait}
use Rattle.order_untangle.specs.Works.{parts_of}
use Rattle.order_untangle.proofs.next_rules.next_merge.Given as goal

abbrev pub invariant-loop-into : goal.invariant-loop-into
invariant-loop-into l = AllWait (parts_of l.segs l.terms) l.waiting.merges.keys l.waiting.divides.keys

abbrev pub decreases-loop-into : goal.decreases-loop-into
decreases-loop-into l = length l.waiting.merges.keys
