use Rattle.std.proofs.Common.{◌≡◌, take}
use Rattle.std.specs.Prelude.{filter}
use Rattle.order_untangle.specs.LeftTerms.{cell_at, holds_on}
use Rattle.order_untangle.proofs.numbers.numbers_on.Given as goal

abbrev pub invariant-loop-number : goal.invariant-loop-number
invariant-loop-number l = l.kept.items ≡ filter (λ n. holds_on l.seg (cell_at l.cells n)) (take l.number-index l.numbers)
