-- The square of a distance, and the side of a way on which a point lies.
use Rattle.std.specs.Prelude.{ℕ, ◌+◌, ◌*◌, ℤ, ◌-ℤ◌, unsigned_abs}
use Rattle.map_base.specs.declared.point.Point.{Point}
use Rattle.whole_algebra.specs.Turns.{turn_of}

abbrev pub square_of : ℤ → ℕ
square_of z = unsigned_abs z * unsigned_abs z

-- the square of the distance of two points
abbrev pub dist2_of : Point → Point → ℕ
dist2_of a b = square_of (b.x -ℤ a.x) + square_of (b.y -ℤ a.y)

-- twice the area of the triangle of a, b and c: above 0 where c lies left of the way from a to b
abbrev pub side_of : Point → Point → Point → ℤ
side_of a b c = turn_of a.x a.y b.x b.y c.x c.y
