-- Shapes of eight sides in the plane of a picture, where x grows to the right and y downwards: each is told by the least
-- and the greatest x, y, x - y and x + y of its points.
use Rattle.std.specs.Prelude.{ℕ, ◌+◌, ◌*◌, ◌/◌, ◌≤◌, ◌&&◌, ◌||◌, Bool, ℤ, pos, ◌+ℤ◌, ◌-ℤ◌, int_le, unsigned_abs, if◌then◌else◌}
use Rattle.std.specs.Int.{int_min, int_max, int_div_euclid}
use Rattle.std.specs.Ordering.{int_eq}
use Rattle.line_offsets.specs.declared.corner.Corner.{Corner}
use Rattle.eight_sides.specs.declared.interval.Interval.{Interval}
use Rattle.eight_sides.specs.declared.shape.Shape.{Shape}

-- two intervals share a number: the greater of their least ones is not above the lesser of their greatest
abbrev pub overlap : Interval → Interval → Bool
overlap a b = int_le (int_max a.least b.least) (int_min a.greatest b.greatest)

-- two shapes meet: all four pairs of intervals share a number
abbrev pub meet : Shape → Shape → Bool
meet a b = overlap a.across b.across && overlap a.down b.down && overlap a.difference b.difference && overlap a.sum b.sum

-- the numbers as far as so much from one
abbrev pub around : ℤ → ℕ → Interval
around z by = record { least = z -ℤ pos by; greatest = z +ℤ pos by }

-- from the lesser of two numbers to the greater, and so much further on each side
abbrev pub between : ℤ → ℤ → ℕ → Interval
between a b by = record { least = int_min a b -ℤ pos by; greatest = int_max a b +ℤ pos by }

-- half of a number, rounded down, and rounded up
abbrev pub half_below : ℤ → ℤ
half_below z = int_div_euclid z (pos 2)

abbrev pub half_above : ℤ → ℤ
half_above z = int_div_euclid (z +ℤ pos 1) (pos 2)

-- an upright box: its sums and differences are those of its corners
abbrev pub upright : Interval → Interval → Shape
upright x y = record {
  across = x;
  down = y;
  difference = record { least = x.least -ℤ y.greatest; greatest = x.greatest -ℤ y.least };
  sum = record { least = x.least +ℤ y.least; greatest = x.greatest +ℤ y.greatest };
}

-- a box whose sides are slanted: its x and y are those of its corners, rounded outwards
abbrev pub slanted : Interval → Interval → Shape
slanted d s = record {
  across = record { least = half_below (s.least +ℤ d.least); greatest = half_above (s.greatest +ℤ d.greatest) };
  down = record { least = half_below (s.least -ℤ d.greatest); greatest = half_above (s.greatest -ℤ d.least) };
  difference = d;
  sum = s;
}

-- How much x - y or x + y changes over a length on a slant, at most: 17 / 12 of it, rounded up, which is no less than the
-- square root of 2 times it.
abbrev pub slanted_length : ℕ → ℕ
slanted_length n = (17 * n + 11) / 12

-- a station as far as so much from its centre
abbrev pub mark_shape : Corner → ℕ → Shape
mark_shape c r = record {
  across = around c.x r;
  down = around c.y r;
  difference = around (c.x -ℤ c.y) (slanted_length r);
  sum = around (c.x +ℤ c.y) (slanted_length r);
}

-- two points lie on one line to the right or down
abbrev pub is_upright : Corner → Corner → Bool
is_upright a b = int_eq a.x b.x || int_eq a.y b.y

-- how far x - y and x + y reach on each side of a straight piece that has so much on each side of it
abbrev pub piece_reach : Corner → Corner → ℕ → ℕ
piece_reach a b h = if is_upright a b then 2 * h else slanted_length h

-- a straight piece from one point to another, with so much on each side of it
abbrev pub piece_shape : Corner → Corner → ℕ → Shape
piece_shape a b h = record {
  across = between a.x b.x h;
  down = between a.y b.y h;
  difference = between (a.x -ℤ a.y) (b.x -ℤ b.y) (piece_reach a b h);
  sum = between (a.x +ℤ a.y) (b.x +ℤ b.y) (piece_reach a b h);
}

-- a point as it is drawn: its numbers can be reckoned with
pub record IsNear (c : Corner) : Type 0 where
  pub across : unsigned_abs c.x ≤ 429496729600
  pub down : unsigned_abs c.y ≤ 429496729600

-- intervals of numbers that can be reckoned with
pub record IsShort (i : Interval) : Type 0 where
  pub least : unsigned_abs i.least ≤ 1099511627776
  pub greatest : unsigned_abs i.greatest ≤ 1099511627776

pub record IsFar (i : Interval) : Type 0 where
  pub least : unsigned_abs i.least ≤ 4398046511104
  pub greatest : unsigned_abs i.greatest ≤ 4398046511104

-- a shape of such points
pub record IsShortShape (s : Shape) : Type 0 where
  pub across : IsShort s.across
  pub down : IsShort s.down
