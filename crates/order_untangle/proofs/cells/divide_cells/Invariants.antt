use Rattle.std.proofs.Common.{◌≡◌, drop}
use Rattle.order_untangle.specs.LeftTerms.{changed, divided_cell}
use Rattle.order_untangle.proofs.cells.divide_cells.Given as goal

abbrev pub invariant-loop-number : goal.invariant-loop-number
invariant-loop-number l =
    changed (divided_cell l.seg l.new l.group l.rest) l.cells.items (drop l.number-index l.numbers) ≡ changed (divided_cell l.seg l.new l.group l.rest) l.initial.cells.items l.numbers
