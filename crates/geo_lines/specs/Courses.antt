-- Lines beside the courses of segments, point by point.
use Rattle.std.specs.Prelude.{◌≡◌, ◌≢◌, ℕ, ◌*◌, ◌≤◌, ℤ, pos, neg_ℤ, unsigned_abs, List, [], ◌∷◌, ◌++◌, length, reverse, All}
use Rattle.std.specs.List.{flat_map}
use Rattle.map_base.specs.declared.point.Point.{Point}
use Rattle.fixed_plane.specs.Plane.{IsInPlane}
use Rattle.geo_lines.specs.Shifts.{width_of, shift_of, moved, corners_at, IsBeside}

-- each point of a course lies apart from the next
abbrev pub AreApart : List Point → Type 0
AreApart [] = Unit {0}
AreApart (a ∷ []) = Unit {0}
AreApart (a ∷ b ∷ rest) = (a ≢ b) × AreApart (b ∷ rest)

-- the course of a segment: at least two points of the plane, each apart from the next
pub record IsCourse (points : List Point) : Type 0 where
  pub long : 2 ≤ length points
  pub in_plane : All IsInPlane points
  pub apart : AreApart points

-- Of the path of a line that runs w units to the right of a course:

-- where it begins: beside the course's first point, shifted with the first piece
abbrev pub path_start : ℤ → List Point → Point
path_start w [] = record { x = pos 0; y = pos 0 }
path_start w (a ∷ []) = a
path_start w (a ∷ b ∷ rest) = moved a (shift_of w a b)

-- where it ends: beside the last point, shifted with the last piece
abbrev pub path_end : ℤ → List Point → Point
path_end w [] = record { x = pos 0; y = pos 0 }
path_end w (a ∷ []) = a
path_end w (a ∷ b ∷ []) = moved b (shift_of w a b)
path_end w (a ∷ b ∷ c ∷ rest) = path_end w (b ∷ c ∷ rest)

-- its corners at each point between, by the two pieces that meet there
abbrev pub inner_corners : ℤ → List Point → List (List Point)
inner_corners w [] = []
inner_corners w (a ∷ []) = []
inner_corners w (a ∷ b ∷ []) = []
inner_corners w (a ∷ b ∷ c ∷ rest) = corners_at w b (shift_of w a b) (shift_of w b c) ∷ inner_corners w (b ∷ c ∷ rest)

-- its corners at each point of a course of two points at least
abbrev pub all_corners : ℤ → List Point → List (List Point)
all_corners w points = (path_start w points ∷ []) ∷ (inner_corners w points ++ (path_end w points ∷ []) ∷ [])

-- corners of points, one after another
abbrev pub one_after_another : List (List Point) → List Point
one_after_another lists = flat_map (λ (points : List Point). points) lists

-- the path of the line that stands k places to the right of a course; fewer than two points are no course
abbrev pub shifted_path : ℤ → List Point → List Point
shifted_path k [] = []
shifted_path k (a ∷ []) = []
shifted_path k (a ∷ b ∷ rest) = one_after_another (all_corners (width_of k) (a ∷ b ∷ rest))

-- the corners of each point lie at most so far from it
abbrev pub AreBeside : ℕ → List Point → List (List Point) → Type 0
AreBeside most [] [] = Unit {0}
AreBeside most [] (corners ∷ lists) = ⊥
AreBeside most (p ∷ points) [] = ⊥
AreBeside most (p ∷ points) (corners ∷ lists) = All (IsBeside most p) corners × AreBeside most points lists

-- each corner of a line that stands k places beside a course lies at most 240 units for each place from its point
abbrev pub StaysBeside : ℤ → List Point → Type 0
StaysBeside k points = AreBeside (240 * unsigned_abs k) points (all_corners (width_of k) points)

-- a point lies within 302,400,000 units of the origin along each axis
pub record IsNearPlane (p : Point) : Type 0 where
  pub across : unsigned_abs p.x ≤ 302400000
  pub along : unsigned_abs p.y ≤ 302400000

-- the line that stands as far to the left of the course when that is walked the other way is the same line
abbrev pub TurnsRound : ℤ → List Point → Type 0
TurnsRound k points = shifted_path (neg_ℤ k) (reverse points) ≡ reverse (shifted_path k points)
