use Rattle.std.proofs.Common.{take}
use Rattle.order_model.specs.Numbers.{AreGiven}
use Rattle.order_model.proofs.part_numbers.set_numbers.Given as goal

abbrev pub invariant-loop-s : goal.invariant-loop-s
invariant-loop-s l = AreGiven (take l.s-index l.part) l.k l.fn.numbers l.numbers
