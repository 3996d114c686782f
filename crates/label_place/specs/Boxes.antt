-- Boxes of what is drawn, rims included: x grows to the right, y downwards.
use Rattle.std.specs.Prelude.{ℕ, ◌&&◌, Bool, pos, ◌+ℤ◌, ◌-ℤ◌, int_le}
use Rattle.std.specs.Int.{int_min, int_max}
use Rattle.line_offsets.specs.declared.corner.Corner.{Corner}
use Rattle.svg_writer.specs.declared.bounds.Bounds.{Bounds}

-- a box holds a point
abbrev pub holds : Bounds → Corner → Bool
holds b c = int_le b.left c.x && int_le c.x b.right && int_le b.top c.y && int_le c.y b.bottom

-- two boxes share a point: neither the greater left side is to the right of the lesser right side, nor so up and down
abbrev pub share_point : Bounds → Bounds → Bool
share_point a b = int_le (int_max a.left b.left) (int_min a.right b.right) && int_le (int_max a.top b.top) (int_min a.bottom b.bottom)

-- a box, wider by so much on each side
abbrev pub wider : ℕ → Bounds → Bounds
wider by b = record { left = b.left -ℤ pos by; right = b.right +ℤ pos by; top = b.top -ℤ pos by; bottom = b.bottom +ℤ pos by }

-- the least box that holds two boxes
abbrev pub hull : Bounds → Bounds → Bounds
hull a b = record { left = int_min a.left b.left; right = int_max a.right b.right; top = int_min a.top b.top; bottom = int_max a.bottom b.bottom }

-- the square round a point
abbrev pub square : Corner → ℕ → Bounds
square c radius = record { left = c.x -ℤ pos radius; right = c.x +ℤ pos radius; top = c.y -ℤ pos radius; bottom = c.y +ℤ pos radius }
