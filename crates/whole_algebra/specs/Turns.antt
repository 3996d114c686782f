-- Where points of the plane lie to one another, by their coordinates.
use Rattle.std.specs.Prelude.{ℤ, ◌+ℤ◌, ◌-ℤ◌, ◌*ℤ◌}

-- the area that the ways a and b span: above 0 where b turns left from a, below 0 where it turns right
abbrev pub cross_of : (ax ay bx by : ℤ) → ℤ
cross_of ax ay bx by = ax *ℤ by -ℤ ay *ℤ bx

-- twice the area of the triangle of a, b and c: above 0 where c lies left of the way from a to b, below 0
-- where it lies right of it
abbrev pub turn_of : (ax ay bx by cx cy : ℤ) → ℤ
turn_of ax ay bx by cx cy = (bx -ℤ ax) *ℤ (cy -ℤ ay) -ℤ (by -ℤ ay) *ℤ (cx -ℤ ax)

-- the square of the distance of a and b
abbrev pub square_between : (ax ay bx by : ℤ) → ℤ
square_between ax ay bx by = (bx -ℤ ax) *ℤ (bx -ℤ ax) +ℤ (by -ℤ ay) *ℤ (by -ℤ ay)

-- by how much the squares of the ways from a to p and from p to b exceed the square of the way from a to b:
-- above 0 where p lies outside the disk over a and b
abbrev pub excess_of : (ax ay bx by px py : ℤ) → ℤ
excess_of ax ay bx by px py = square_between ax ay px py +ℤ square_between px py bx by -ℤ square_between ax ay bx by
