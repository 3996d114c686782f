-- Points of the plane in shapes. A point is told by whole numbers x and y over a common scale above 0: it is
-- (x / scale, y / scale), so all points of the plane are met as closely as one likes.
use Rattle.std.specs.Prelude.{ℕ, ℤ, pos, ◌+ℤ◌, ◌-ℤ◌, ◌*ℤ◌, ◌≤ℤ◌}
use Rattle.line_offsets.specs.declared.corner.Corner.{Corner}
use Rattle.eight_sides.specs.declared.interval.Interval.{Interval}
use Rattle.eight_sides.specs.declared.shape.Shape.{Shape}

-- a number z / scale lies in an interval
abbrev pub LiesIn : ℕ → ℤ → Interval → Type 0
LiesIn scale z i = ((pos scale *ℤ i.least) ≤ℤ z) × (z ≤ℤ (pos scale *ℤ i.greatest))

-- a point lies in a shape
pub record IsIn (scale : ℕ) (x y : ℤ) (s : Shape) : Type 0 where
  pub across : LiesIn scale x s.across
  pub down : LiesIn scale y s.down
  pub difference : LiesIn scale (x -ℤ y) s.difference
  pub sum : LiesIn scale (x +ℤ y) s.sum

-- the square of a number
abbrev pub squared : ℤ → ℤ
squared z = z *ℤ z

-- a point lies in the disc round a centre
abbrev pub IsInDisc : ℕ → ℤ → ℤ → Corner → ℕ → Type 0
IsInDisc scale x y c r =
    (squared (x -ℤ (pos scale *ℤ c.x)) +ℤ squared (y -ℤ (pos scale *ℤ c.y))) ≤ℤ squared (pos scale *ℤ pos r)
