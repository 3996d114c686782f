-- Sets of doubled points, as tiles of flags.
use Rattle.std.specs.Prelude.{ℕ, ◌≡◌, ◌+◌, ◌*◌, ◌/◌, ◌%◌, ◌&&◌, nat_le, Bool, false, ℤ, pos, ◌+ℤ◌, unsigned_abs, List, [], length, slice_index_or, ◌⊎◌}
use Rattle.octi_grid.specs.declared.point.GridPoint.{GridPoint}

-- the tiles, column by column, with a flag for each point, column by column
abbrev pub PointFlags : Type 0
PointFlags = List (List Bool)

-- how far a coordinate lies above the least one
abbrev pub offset : ℤ → ℕ
offset z = unsigned_abs (z +ℤ pos 20000)

-- the number of a point's tile: each has 256 points by 256, and 157 lie above one another
abbrev pub tile_of : GridPoint → ℕ
tile_of p = offset p.x / 256 * 157 + offset p.y / 256

-- the number of a point in its tile
abbrev pub flag_of : GridPoint → ℕ
flag_of p = offset p.x % 256 * 256 + offset p.y % 256

-- the point lies within 20,000 either way
abbrev pub is_doubled : GridPoint → Bool
is_doubled p = nat_le (unsigned_abs p.x) 20000 && nat_le (unsigned_abs p.y) 20000

-- the flag of a number in the tile of a number
abbrev pub is_raised : PointFlags → ℕ → ℕ → Bool
is_raised tiles tile flag = slice_index_or (slice_index_or tiles tile []) flag false

-- the point is in the set
abbrev pub holds : PointFlags → GridPoint → Bool
holds tiles p = is_doubled p && is_raised tiles (tile_of p) (flag_of p)

-- a tile has all its flags, or none while it is not made
abbrev pub IsTile : List Bool → Type 0
IsTile flags = (length flags ≡ 0) ⊎ (length flags ≡ 65536)

-- there are as many tiles as the square needs
pub record AreTiles (tiles : PointFlags) : Type 0 where
  pub count : length tiles ≡ 24649
  pub each : (i : ℕ) → IsTile (slice_index_or tiles i [])
