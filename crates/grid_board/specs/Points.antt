-- Points of the grid: which come first, and which lie near the origin.
use Rattle.std.specs.Prelude.{ℕ, ◌||◌, ◌&&◌, nat_le, int_lt, Bool, unsigned_abs, List}
use Rattle.std.specs.List.{list_all}
use Rattle.std.specs.Ordering.{int_eq}
use Rattle.octi_grid.specs.declared.point.GridPoint.{GridPoint}
use Rattle.octi_grid.specs.Walks.{PlainWalk, points_of}

-- of two points the first is the one of a lesser y, or of the same y and a lesser x
abbrev pub is_lower : GridPoint → GridPoint → Bool
is_lower p q = int_lt p.y q.y || (int_eq p.y q.y && int_lt p.x q.x)

-- both coordinates of a point lie within so many steps either way
abbrev pub is_near : ℕ → GridPoint → Bool
is_near most p = nat_le (unsigned_abs p.x) most && nat_le (unsigned_abs p.y) most

-- all grid points of walks do
abbrev pub are_near : ℕ → List PlainWalk → Bool
are_near most walks = list_all (λ (w : PlainWalk). list_all (is_near most) (points_of w)) walks
