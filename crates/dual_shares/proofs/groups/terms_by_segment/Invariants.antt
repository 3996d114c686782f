use Rattle.std.proofs.Common.{◌≡◌, map, take}
use Rattle.order_model.specs.Places.{tables_of}
use Rattle.dual_shares.specs.Groups.{numbers_on}
use Rattle.dual_shares.proofs.groups.terms_by_segment.Given as goal

abbrev pub invariant-loop-n : goal.invariant-loop-n
invariant-loop-n l = tables_of l.groups.items ≡ map (numbers_on l.problem.terms (take l.n-index l.numbers)) l.part
