use Rattle.std.proofs.Common.{◌≡◌, Some, map, take}
use Rattle.order_untangle.proofs.cells.filled.Given as goal

abbrev pub invariant-loop-term : goal.invariant-loop-term
invariant-loop-term l = l.cells.items ≡ map Some (take l.term-index l.terms)
