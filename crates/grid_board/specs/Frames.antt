-- Bounds of points that may be doubled.
use Rattle.std.specs.Prelude.{pos, negsuc, ◌≤ℤ◌}
use Rattle.grid_board.specs.declared.bounds.Bounds.{Bounds}

-- bounds that lie within 4,000 either way and are in order
pub record IsFrame (b : Bounds) : Type 0 where
  pub left : negsuc 3999 ≤ℤ b.left
  pub right : b.right ≤ℤ pos 4000
  pub bottom : negsuc 3999 ≤ℤ b.bottom
  pub top : b.top ≤ℤ pos 4000
  pub across : b.left ≤ℤ b.right
  pub upwards : b.bottom ≤ℤ b.top
