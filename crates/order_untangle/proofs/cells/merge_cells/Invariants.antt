use Rattle.std.proofs.Common.{◌≡◌, drop}
use Rattle.order_untangle.specs.LeftTerms.{changed, merged_cell}
use Rattle.order_untangle.proofs.cells.merge_cells.Given as goal

abbrev pub invariant-loop-number : goal.invariant-loop-number
invariant-loop-number l =
    changed (merged_cell l.into l.from l.flip) l.cells.items (drop l.number-index l.numbers) ≡ changed (merged_cell l.into l.from l.flip) l.initial.cells.items l.numbers
