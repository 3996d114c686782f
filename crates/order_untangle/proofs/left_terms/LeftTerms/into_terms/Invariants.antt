use Rattle.std.proofs.Common.{◌≡◌, take}
use Rattle.order_untangle.specs.LeftTerms.{left}
use Rattle.order_untangle.proofs.left_terms.LeftTerms.into_terms.Given as goal

abbrev pub invariant-loop-cell : goal.invariant-loop-cell
invariant-loop-cell l = l.terms.items ≡ left (take l.cell-index l.cell-items)
