use Rattle.std.proofs.Common.{◌≡◌, take}
use Rattle.pair_bounds.specs.PriceNotes.{price_noted, listed_all}
use Rattle.part_bounds.proofs.prices.listed_all.Given as goal

abbrev pub invariant-loop-n : goal.invariant-loop-n
invariant-loop-n l = l.list.items ≡ listed_all (price_noted l.noted.prices.items) (take l.n-index l.numbers)
