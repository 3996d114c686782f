use Rattle.std.proofs.Common.{take}
use Rattle.order_search.specs.Members.{AreMarks}
use Rattle.order_search.proofs.part_numbers.marks_of.Given as goal

abbrev pub invariant-loop-s : goal.invariant-loop-s
invariant-loop-s l = AreMarks (take l.s-index l.part) l.count l.marks.items
