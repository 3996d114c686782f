use Rattle.std.proofs.Common.{◌≡◌, take, map}
use Rattle.order_model.specs.Places.{tables_of}
use Rattle.order_model.specs.Gathering.{part_lists}
use Rattle.order_model.specs.PartTerms.{part_numbers}
use Rattle.order_model.proofs.part_terms.terms_by_part.Given as goal

abbrev pub invariant-loop-n : goal.invariant-loop-n
invariant-loop-n l = tables_of l.groups.items ≡ map (part_numbers (take l.n l.terms)) (part_lists l.parts)
