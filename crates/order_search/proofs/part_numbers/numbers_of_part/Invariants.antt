use Rattle.std.proofs.Common.{◌≡◌, take}
use Rattle.order_search.proofs.Marks.{numbers_so_far}
use Rattle.order_search.proofs.part_numbers.numbers_of_part.Given as goal

abbrev pub invariant-loop-n : goal.invariant-loop-n
invariant-loop-n l = l.numbers.items ≡ numbers_so_far l.part (take l.n l.terms)
