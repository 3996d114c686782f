use Rattle.std.proofs.Common.{◌≡◌}
use Rattle.std.specs.Prelude.{IfSome}
use Rattle.label_place.specs.Grids.{hits_upto, meets_at}
use Rattle.label_place.proofs.Links.{left_over, IsHere}
use Rattle.label_place.proofs.grid.Grid.meets_at.Given as goal

-- what is met is met up to this entry, which is of the cell
abbrev pub invariant-loop-at : goal.invariant-loop-at
invariant-loop-at l = record {
  left : hits_upto l.fn.bounds l.fn.cell l.self.entries.items l.at ≡ meets_at l.self l.fn.bounds l.fn.cell;
  here : IfSome l.at (IsHere l.self l.fn.cell);
}

abbrev pub decreases-loop-at : goal.decreases-loop-at
decreases-loop-at l = left_over l.at
