-- The cells of a coarse grid over the plane, 160 units wide and high.
use Rattle.std.specs.Prelude.{ℕ, ◌+◌, ◌-◌, ◌*◌, ◌/◌, ◌%◌, min, ℤ, pos, ◌+ℤ◌, unsigned_abs, List, map}
use Rattle.std.specs.Int.{int_max}
use Rattle.std.specs.List.{flat_map, range_with_len}
use Rattle.eight_sides.specs.declared.shape.Shape.{Shape}
use Rattle.poster_table.specs.declared.cells.Cells.{Cells}

-- the column or the row of a coordinate
abbrev pub line_of : ℤ → ℕ
line_of z = unsigned_abs (int_max (z +ℤ pos 1099511627776) (pos 0)) / 160

-- the first and the last column and row of a shape
abbrev pub cells_of : Shape → Cells
cells_of s = record { left = line_of s.across.least; right = line_of s.across.greatest; top = line_of s.down.least; bottom = line_of s.down.greatest }

-- how many they are, as far as is reckoned
abbrev pub count_of : Cells → ℕ
count_of c = min (c.right + 1 - c.left) 1048576 * min (c.bottom + 1 - c.top) 1048576

-- the bucket of a cell
abbrev pub bucket_of : ℕ → ℕ → ℕ → ℕ
bucket_of column row buckets = (column + 8191 * row) % buckets

-- the buckets of so many cells of a row
abbrev pub buckets_along : ℕ → ℕ → ℕ → ℕ → List ℕ
buckets_along buckets row from count = map (λ (column : ℕ). bucket_of column row buckets) (range_with_len from count)

-- those of the cells of a row, and of all rows
abbrev pub row_buckets : ℕ → Cells → ℕ → List ℕ
row_buckets buckets c row = buckets_along buckets row c.left (c.right + 1 - c.left)

abbrev pub buckets_of : ℕ → Cells → List ℕ
buckets_of buckets c = flat_map (row_buckets buckets c) (range_with_len c.top (c.bottom + 1 - c.top))
