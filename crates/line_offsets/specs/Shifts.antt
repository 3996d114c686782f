-- Lines beside a walk, as it is drawn: x grows to the right, y downwards. One grid step is 100 units where nothing else is
-- said.
use Rattle.std.specs.Prelude.{◌≡◌, ℕ, Bool, true, false, ℤ, pos, negsuc, ◌+ℤ◌, ◌-ℤ◌, ◌*ℤ◌, int_div}
use Rattle.octi_grid.specs.declared.dir.Dir.{Dir}
use Rattle.octi_grid.specs.declared.dir.Dir.TheVariants as dir
use Rattle.octi_grid.specs.declared.point.GridPoint.{GridPoint}
use Rattle.line_offsets.specs.declared.corner.Corner.{Corner}
use Rattle.line_offsets.specs.declared.corner.Kept.{Kept}
use Rattle.line_offsets.specs.declared.corner.Kept.TheVariants.{X, Y, Sum, Difference}

-- a grid point as it is drawn where a grid step is so many units
abbrev pub drawn_at : ℕ → GridPoint → Corner
drawn_at pitch p = record { x = pos pitch *ℤ p.x; y = pos 0 -ℤ (pos pitch *ℤ p.y) }

-- the same, moved k times by a way across and a way down
abbrev pub moved_at : ℕ → GridPoint → ℤ → ℤ × ℤ → Corner
moved_at pitch p k by = record { x = (pos pitch *ℤ p.x) +ℤ (k *ℤ by.0); y = (k *ℤ by.1) -ℤ (pos pitch *ℤ p.y) }

-- both where a grid step is 100 units
abbrev pub drawn : GridPoint → Corner
drawn p = drawn_at 100 p

abbrev pub moved : GridPoint → ℤ → ℤ × ℤ → Corner
moved p k by = moved_at 100 p k by

-- what is the same at all points of a line of a direction
abbrev pub kept_by : Dir → Kept
kept_by dir.N = X
kept_by dir.NE = Sum
kept_by dir.E = Y
kept_by dir.SE = Difference
kept_by dir.S = X
kept_by dir.SW = Sum
kept_by dir.W = Y
kept_by dir.NW = Difference

-- its value at a point: x, y, x + y or y - x
abbrev pub value_at : Kept → ℤ → ℤ → ℤ
value_at X x y = x
value_at Y x y = y
value_at Sum x y = x +ℤ y
value_at Difference x y = y -ℤ x

-- by how much this value changes where a line is shifted one place to the right of its direction
abbrev pub shift_of : Dir → ℤ
shift_of dir.N = pos 7
shift_of dir.NE = pos 10
shift_of dir.E = pos 7
shift_of dir.SE = pos 10
shift_of dir.S = negsuc 6
shift_of dir.SW = negsuc 9
shift_of dir.W = negsuc 6
shift_of dir.NW = negsuc 9

-- where an end of a walk comes to where the line is shifted one place: across, and down
abbrev pub foot_of : Dir → ℤ × ℤ
foot_of dir.N = (pos 7, pos 0)
foot_of dir.NE = (pos 5, pos 5)
foot_of dir.E = (pos 0, pos 7)
foot_of dir.SE = (negsuc 4, pos 5)
foot_of dir.S = (negsuc 6, pos 0)
foot_of dir.SW = (negsuc 4, negsuc 4)
foot_of dir.W = (pos 0, negsuc 6)
foot_of dir.NW = (pos 5, negsuc 4)

-- half of an even number
abbrev pub half : ℤ → ℤ
half z = int_div z (pos 2)

-- the point at which two things have these values, the origin where both are one thing
abbrev pub meet : Kept → ℤ → Kept → ℤ → ℤ × ℤ
meet X a Y b = (a, b)
meet Y b X a = (a, b)
meet X a Sum b = (a, b -ℤ a)
meet Sum b X a = (a, b -ℤ a)
meet X a Difference b = (a, b +ℤ a)
meet Difference b X a = (a, b +ℤ a)
meet Y a Sum b = (b -ℤ a, a)
meet Sum b Y a = (b -ℤ a, a)
meet Y a Difference b = (a -ℤ b, a)
meet Difference b Y a = (a -ℤ b, a)
meet Sum a Difference b = (half (a -ℤ b), half (a +ℤ b))
meet Difference b Sum a = (half (a -ℤ b), half (a +ℤ b))
meet X a X b = (pos 0, pos 0)
meet Y a Y b = (pos 0, pos 0)
meet Sum a Sum b = (pos 0, pos 0)
meet Difference a Difference b = (pos 0, pos 0)

-- how far from a turn the two lines meet, where they are shifted one place: across, and down
abbrev pub turn_of : Dir → Dir → ℤ × ℤ
turn_of d e = meet (kept_by d) (shift_of d) (kept_by e) (shift_of e)

-- whether two things are one
abbrev pub are_one : Kept → Kept → Bool
are_one X X = true
are_one Y Y = true
are_one Sum Sum = true
are_one Difference Difference = true
are_one a b = false

-- lines of two directions keep one thing: the directions are one, or opposite
abbrev pub are_parallel : Dir → Dir → Bool
are_parallel d e = are_one (kept_by d) (kept_by e)

-- a point lies on the line of a direction through a grid point that is shifted k places to the right
abbrev pub IsOnShifted : Dir → GridPoint → ℤ → Corner → Type 0
IsOnShifted d p k c = value_at (kept_by d) c.x c.y ≡ value_at (kept_by d) (drawn p).x (drawn p).y +ℤ (k *ℤ shift_of d)
