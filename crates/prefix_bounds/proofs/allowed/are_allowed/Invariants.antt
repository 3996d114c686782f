use Rattle.std.proofs.Common.{◌≡◌, true, take}
use Rattle.order_model.specs.PartTerms.{part_terms}
use Rattle.order_bound.specs.Values.{are_allowed}
use Rattle.prefix_bounds.specs.SlotsSoFar.{AreSmallPrices}
use Rattle.prefix_bounds.proofs.allowed.are_allowed.Given as goal

abbrev pub invariant-loop-entry : goal.invariant-loop-entry
invariant-loop-entry l =
    (are_allowed l.prefix.placed (part_terms l.problem.terms l.part) (take l.entry-index l.list) ≡ true) × AreSmallPrices (take l.entry-index l.list)
