-- How far a line beside a course is shifted: along each piece of the course, and where two pieces meet.
use Rattle.std.specs.Prelude.{ℕ, ◌≤◌, Bool, ℤ, pos, ◌+ℤ◌, ◌-ℤ◌, ◌*ℤ◌, int_div, int_le, unsigned_abs, List, [], ◌∷◌, if◌then◌else◌}
use Rattle.std.specs.Ordering.{int_eq}
use Rattle.map_base.specs.declared.point.Point.{Point}
use Rattle.fixed_plane.specs.Measures.{dist2_of}
use Rattle.geo_lines.specs.declared.shift.Shift.{Shift}
use Rattle.geo_lines.specs.Roots.{root}

-- how far a line runs beside its course that stands k places to the right of it: 30 units for each place
abbrev pub width_of : ℤ → ℤ
width_of k = pos 30 *ℤ k

-- how long the piece of a course from a to b is, in whole units
abbrev pub length_of : Point → Point → ℕ
length_of a b = root (dist2_of a b)

-- how a line that runs w units to the right of the piece from a to b is shifted: the piece turned right and made w units
-- long, each coordinate cut towards zero
abbrev pub shift_of : ℤ → Point → Point → Shift
shift_of w a b = record {
  x = int_div ((b.y -ℤ a.y) *ℤ w) (pos (length_of a b));
  y = int_div ((a.x -ℤ b.x) *ℤ w) (pos (length_of a b));
}

-- a point, shifted
abbrev pub moved : Point → Shift → Point
moved p o = record { x = p.x +ℤ o.x; y = p.y +ℤ o.y }

-- by how much two pieces with these shifts go on into one another: twice the square of w where they go straight on, none
-- where they turn back
abbrev pub onward_of : ℤ → Shift → Shift → ℤ
onward_of w o q = (w *ℤ w) +ℤ ((o.x *ℤ q.x) +ℤ (o.y *ℤ q.y))

-- the shift of the point at which both shifted pieces meet, each coordinate cut towards zero
abbrev pub meeting_of : ℤ → Shift → Shift → Shift
meeting_of w o q = record {
  x = int_div ((o.x +ℤ q.x) *ℤ (w *ℤ w)) (onward_of w o q);
  y = int_div ((o.y +ℤ q.y) *ℤ (w *ℤ w)) (onward_of w o q);
}

-- the two pieces meet near enough: the turn is no sharper than 120 degrees
abbrev pub meets_near : ℤ → Shift → Shift → Bool
meets_near w o q = int_le (w *ℤ w) (pos 2 *ℤ onward_of w o q)

-- the corners of the line at a point between two pieces with these shifts: the point itself, where the line is not
-- shifted; the point at which the shifted pieces meet; or, at a sharp turn, the end of the one and the beginning of the other
abbrev pub corners_at : ℤ → Point → Shift → Shift → List Point
corners_at w p o q =
    if int_eq w (pos 0) then p ∷ []
    else if meets_near w o q then moved p (meeting_of w o q) ∷ []
    else moved p o ∷ moved p q ∷ []

-- a shift of at most so many units along each axis
pub record IsWithin (most : ℕ) (o : Shift) : Type 0 where
  pub across : unsigned_abs o.x ≤ most
  pub along : unsigned_abs o.y ≤ most

-- a point lies at most so far from another, along each axis
pub record IsBeside (most : ℕ) (p corner : Point) : Type 0 where
  pub across : unsigned_abs (corner.x -ℤ p.x) ≤ most
  pub along : unsigned_abs (corner.y -ℤ p.y) ≤ most
