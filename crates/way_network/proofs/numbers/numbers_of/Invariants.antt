use Rattle.way_network.specs.Numbers.{AreNumbered}
use Rattle.way_network.proofs.numbers.numbers_of.Given as goal

-- the later chains have their numbers
abbrev pub invariant-loop-number : goal.invariant-loop-number
invariant-loop-number l = AreNumbered l.chains l.number l.numbers
