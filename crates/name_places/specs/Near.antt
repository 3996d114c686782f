-- Shapes that are near enough to be reckoned with.
use Rattle.std.specs.Prelude.{◌≤◌, unsigned_abs}
use Rattle.eight_sides.specs.declared.interval.Interval.{Interval}
use Rattle.eight_sides.specs.declared.shape.Shape.{Shape}

-- an interval of what is drawn
pub record IsNearBy (i : Interval) : Type 0 where
  pub least : unsigned_abs i.least ≤ 549755813888
  pub greatest : unsigned_abs i.greatest ≤ 549755813888

-- what is drawn
pub record IsNearShape (s : Shape) : Type 0 where
  pub across : IsNearBy s.across
  pub down : IsNearBy s.down
