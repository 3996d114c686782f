-- Directions of the grid, and the points of a way.
use Rattle.std.specs.Prelude.{ℕ, ◌≤◌, ◌&&◌, Bool, nat_le, ℤ, pos, negsuc, ◌+ℤ◌, ◌-ℤ◌, int_lt, unsigned_abs, List, [], ◌∷◌, if◌then◌else◌, Option, Some, None}
use Rattle.std.specs.List.{list_all}
use Rattle.std.specs.Ordering.{int_eq}
use Rattle.octi_grid.specs.declared.dir.Dir.{Dir}
use Rattle.octi_grid.specs.declared.dir.Dir.TheVariants as dir
use Rattle.octi_grid.specs.declared.point.GridPoint.{GridPoint}

-- the number of a direction, clockwise from north
abbrev pub number_of : Dir → ℕ
number_of dir.N = 0
number_of dir.NE = 1
number_of dir.E = 2
number_of dir.SE = 3
number_of dir.S = 4
number_of dir.SW = 5
number_of dir.W = 6
number_of dir.NW = 7

-- the opposite direction
abbrev pub reverse_of : Dir → Dir
reverse_of dir.N = dir.S
reverse_of dir.NE = dir.SW
reverse_of dir.E = dir.W
reverse_of dir.SE = dir.NW
reverse_of dir.S = dir.N
reverse_of dir.SW = dir.NE
reverse_of dir.W = dir.E
reverse_of dir.NW = dir.SE

-- how far east a step goes
abbrev pub east_of : Dir → ℤ
east_of dir.N = pos 0
east_of dir.NE = pos 1
east_of dir.E = pos 1
east_of dir.SE = pos 1
east_of dir.S = pos 0
east_of dir.SW = negsuc 0
east_of dir.W = negsuc 0
east_of dir.NW = negsuc 0

-- how far north a step goes
abbrev pub north_of : Dir → ℤ
north_of dir.N = pos 1
north_of dir.NE = pos 1
north_of dir.E = pos 0
north_of dir.SE = negsuc 0
north_of dir.S = negsuc 0
north_of dir.SW = negsuc 0
north_of dir.W = pos 0
north_of dir.NW = pos 1

-- the point that one step leads to
abbrev pub step_from : GridPoint → Dir → GridPoint
step_from p d = record { x = p.x +ℤ east_of d; y = p.y +ℤ north_of d }

-- the point that steps lead to
abbrev pub after : GridPoint → List Dir → GridPoint
after p [] = p
after p (d ∷ ds) = after (step_from p d) ds

-- the points of a way, in order
abbrev pub points_from : GridPoint → List Dir → List GridPoint
points_from p [] = p ∷ []
points_from p (d ∷ ds) = p ∷ points_from (step_from p d) ds

-- a point as it is doubled
abbrev pub doubled : GridPoint → GridPoint
doubled p = record { x = p.x +ℤ p.x; y = p.y +ℤ p.y }

-- the doubled points of a way, in order: twice each point, and between two points their sum
abbrev pub doubled_from : GridPoint → List Dir → List GridPoint
doubled_from p [] = doubled p ∷ []
doubled_from p (d ∷ ds) = doubled p ∷ step_from (doubled p) d ∷ doubled_from (step_from p d) ds

-- two points are one
abbrev pub are_one : GridPoint → GridPoint → Bool
are_one p q = int_eq p.x q.x && int_eq p.y q.y

-- the point lies within 10,000 either way
abbrev pub is_within : GridPoint → Bool
is_within p = nat_le (unsigned_abs p.x) 10000 && nat_le (unsigned_abs p.y) 10000

-- the point lies within 10,000 either way, as a fact
pub record IsWithin (p : GridPoint) : Type 0 where
  pub across : unsigned_abs p.x ≤ 10000
  pub along : unsigned_abs p.y ≤ 10000

-- the point may be a doubled one: it lies within 20,000 either way
pub record IsDoubled (p : GridPoint) : Type 0 where
  pub across : unsigned_abs p.x ≤ 20000
  pub along : unsigned_abs p.y ≤ 20000

-- a step from the point stays in range
pub record CanStep (p : GridPoint) : Type 0 where
  pub across : unsigned_abs p.x ≤ 100000000
  pub along : unsigned_abs p.y ≤ 100000000

-- where steps lead to, if each point of the way lies within 10,000 either way
abbrev pub end_within : GridPoint → List Dir → Option GridPoint
end_within p ds = if list_all is_within (points_from p ds) then Some (after p ds) else None

-- a coordinate after so many steps, each of which changes it by 1 in this sense
abbrev pub moved : ℤ → ℤ → ℤ → ℤ
moved from sense count = if int_lt (pos 0) sense then from +ℤ count else if int_lt sense (pos 0) then from -ℤ count else from
