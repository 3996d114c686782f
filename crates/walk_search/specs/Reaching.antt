-- What it costs at least to come from one point to another.
use Rattle.std.specs.Prelude.{ℕ, ◌+◌, ◌-◌, ◌*◌, ◌&&◌, Bool, ℤ, pos, int_le, ◌+ℤ◌, ◌-ℤ◌, unsigned_abs, max, min}
use Rattle.std.specs.Ordering.{int_eq}
use Rattle.octi_grid.specs.declared.dir.Dir.{Dir}
use Rattle.octi_grid.specs.declared.dir.Dir.TheVariants as dir
use Rattle.octi_grid.specs.declared.point.GridPoint.{GridPoint}

-- the cost of coming over a greater and a lesser difference of coordinates, if nothing stands in the way and no turn
-- costs: diagonal steps for the lesser one, and steps along an axis for the rest of the greater
abbrev pub across : ℕ → ℕ → ℕ
across m n = 4 * (max m n - min m n) + 5 * min m n

abbrev pub reach_of : GridPoint → GridPoint → ℕ
reach_of a b = across (unsigned_abs (b.x -ℤ a.x)) (unsigned_abs (b.y -ℤ a.y))

-- so far to the east and to the north lies a place on the straight line in a direction
unfoldable pub is_along : Dir → ℤ → ℤ → Bool
is_along dir.N x y = int_eq x (pos 0) && int_le (pos 0) y
is_along dir.NE x y = int_eq x y && int_le (pos 0) y
is_along dir.E x y = int_eq y (pos 0) && int_le (pos 0) x
is_along dir.SE x y = int_eq (x +ℤ y) (pos 0) && int_le (pos 0) x
is_along dir.S x y = int_eq x (pos 0) && int_le y (pos 0)
is_along dir.SW x y = int_eq x y && int_le y (pos 0)
is_along dir.W x y = int_eq y (pos 0) && int_le x (pos 0)
is_along dir.NW x y = int_eq (x +ℤ y) (pos 0) && int_le x (pos 0)

-- a point lies in a direction from another, straight on
abbrev pub lies_along : GridPoint → GridPoint → Dir → Bool
lies_along a b d = is_along d (b.x -ℤ a.x) (b.y -ℤ a.y)
