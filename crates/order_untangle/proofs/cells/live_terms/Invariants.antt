use Rattle.std.proofs.Common.{◌≡◌, take}
use Rattle.order_untangle.specs.LeftTerms.{live}
use Rattle.order_untangle.proofs.cells.live_terms.Given as goal

abbrev pub invariant-loop-number : goal.invariant-loop-number
invariant-loop-number l = l.terms.items ≡ live l.cells (take l.number-index l.numbers)
