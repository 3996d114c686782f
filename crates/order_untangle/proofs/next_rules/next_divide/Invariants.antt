use Rattle.std.proofs.Common.{length}
use Rattle.order_untangle.specs.Waits.{AllWait}
use Rattle.order_untangle.specs.Works.{parts_of}
use Rattle.order_untangle.proofs.next_rules.next_divide.Given as goal

abbrev pub invariant-loop-seg : goal.invariant-loop-seg
invariant-loop-seg l = AllWait (parts_of l.segs l.terms) l.waiting.merges.keys l.waiting.divides.keys

abbrev pub decreases-loop-seg : goal.decreases-loop-seg
decreases-loop-seg l = length l.waiting.divides.keys
