use Rattle.part_bounds.specs.Settled.{lists_in}
use Rattle.part_bounds.proofs.ApartLists.{AreEmpty}
use Rattle.part_bounds.proofs.aparts.empty_lists.Given as goal

abbrev pub invariant-loop : goal.invariant-loop
invariant-loop l = AreEmpty l.counter (lists_in l.lists.items)
