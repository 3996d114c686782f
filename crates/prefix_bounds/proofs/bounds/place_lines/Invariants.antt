use Rattle.std.proofs.Common.{◌≡◌, take}
use Rattle.order_model.specs.Problems.{lines_on}
use Rattle.order_model.specs.Prefixes.{with_last}
use Rattle.part_bounds.specs.PartStates.{IsWell}
use Rattle.prefix_bounds.specs.Filling.{filled}
use Rattle.prefix_bounds.proofs.bounds.place_lines.Given as goal

abbrev pub invariant-loop-line : goal.invariant-loop-line
invariant-loop-line l =
    (l.bounds ≡ filled l.fn.bounds l.seg (with_last (lines_on l.fn.bounds.segs l.seg) (take l.line-index (lines_on l.prefix.placed l.seg))))
    × IsWell l.bounds.segs l.bounds.placed
