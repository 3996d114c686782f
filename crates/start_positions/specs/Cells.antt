-- Cells of the plane, and the grid that they make.
use Rattle.std.specs.Prelude.{◌≡◌, ◌≤◌, ℕ, zero, suc, ◌+◌, ◌-◌, ◌*◌, ◌/◌, ◌==◌, ◌&&◌, not, nat_lt, nat_le, Bool, true, false, int_lt, ℤ, pos, ◌-ℤ◌, neg_ℤ, unsigned_abs, List, [], ◌∷◌, length, map, max, if◌then◌else◌, Option, Some, None}
use Rattle.map_base.specs.declared.point.Point.{Point}
use Rattle.map_base.specs.declared.limit.Limit.{Limit}
use Rattle.map_base.specs.declared.limit.LimitKind.TheVariants as kind
use Rattle.grid_board.specs.declared.bounds.Bounds.{Bounds}
use Rattle.start_positions.specs.declared.cells.Extents.{Extents}
use Rattle.start_positions.specs.declared.placing.Offset.{Offset}

-- the quotient, rounded up
abbrev pub ceil_quotient : ℕ → ℕ → ℕ
ceil_quotient a b = (a + b - 1) / b

-- the first of numbers
abbrev pub first_number : List ℤ → ℤ
first_number [] = pos 0
first_number (z ∷ zs) = z

-- the lesser and the greater of two numbers
abbrev pub lesser : ℤ → ℤ → ℤ
lesser a b = if int_lt b a then b else a

abbrev pub greater : ℤ → ℤ → ℤ
greater a b = if int_lt a b then b else a

-- the least of numbers and one more, and the greatest
abbrev pub least_beside : ℤ → List ℤ → ℤ
least_beside a [] = a
least_beside a (z ∷ zs) = least_beside (lesser a z) zs

abbrev pub greatest_beside : ℤ → List ℤ → ℤ
greatest_beside a [] = a
greatest_beside a (z ∷ zs) = greatest_beside (greater a z) zs

-- the least of numbers, and the greatest
abbrev pub least_number : List ℤ → ℤ
least_number zs = least_beside (first_number zs) zs

abbrev pub greatest_number : List ℤ → ℤ
greatest_number zs = greatest_beside (first_number zs) zs

-- how far east or north points lie
abbrev pub coordinate : Bool → Point → ℤ
coordinate east p = if east then p.x else p.y

-- how far numbers lie apart
abbrev pub spread_of : List ℤ → ℕ
spread_of zs = unsigned_abs (greatest_number zs -ℤ least_number zs)

-- the extents of points, eastwards and northwards
abbrev pub width_of : List Point → ℕ
width_of ps = spread_of (map (coordinate true) ps)

abbrev pub height_of : List Point → ℕ
height_of ps = spread_of (map (coordinate false) ps)

-- the greater extent
abbrev pub extent_of : List Point → ℕ
extent_of ps = max (width_of ps) (height_of ps)

-- the side of a cell: what is asked for, and where 0 is asked for, a fiftieth of the extent
abbrev pub side_of : ℕ → ℕ → ℕ
side_of extent cell = if cell == 0 then max 1 (ceil_quotient extent 50) else cell

abbrev pub cell_side : List Point → ℕ → ℕ
cell_side ps cell = side_of (extent_of ps) cell

-- how many cells of this side the extent takes on a grid four times as fine
abbrev pub fine_cells : List Point → ℕ → ℕ
fine_cells ps cell = ceil_quotient (4 * extent_of ps) cell

-- a side is asked for under which the grid has too many cells
abbrev pub is_too_fine : List Point → ℕ → Bool
is_too_fine ps cell = not (cell == 0) && nat_lt 400 (fine_cells ps cell)

-- the limit of cells, with the count of them on the finest grid
abbrev pub limit_found : List Point → ℕ → Limit
limit_found ps cell = record { what = kind.Cells; found = fine_cells ps cell; most = 400 }

-- the limit of cells, where the finest grid under a cell that is asked for has too many
abbrev pub limit_of : List Point → ℕ → Option Limit
limit_of ps cell = if is_too_fine ps cell then Some (limit_found ps cell) else None

-- how far points lie from the least coordinates
abbrev pub offset_of : List Point → Point → Offset
offset_of ps p = record {
  east = unsigned_abs (p.x -ℤ least_number (map (coordinate true) ps));
  north = unsigned_abs (p.y -ℤ least_number (map (coordinate false) ps));
}

abbrev pub offsets_of : List Point → List Offset
offsets_of ps = map (offset_of ps) ps

-- an offset within the extents
pub record IsOffset (ps : List Point) (o : Offset) : Type 0 where
  pub east : o.east ≤ width_of ps
  pub north : o.north ≤ height_of ps

-- of the numbers from m on the first whose square is no less, if one of so many is
abbrev pub root_from : ℕ → ℕ → ℕ → ℕ
root_from n m zero = m
root_from n m (suc more) = if nat_le n (m * m) then m else root_from n (m + 1) more

-- the least number whose square is no less; none above 100 is asked for
unfoldable pub root_up : ℕ → ℕ
root_up n = root_from n 0 100

-- how many columns and rows the grid has on each side of the cells
abbrev pub margin_of : ℕ → ℕ
margin_of nodes = 4 + root_up nodes

-- the last column or row
abbrev pub last_line : ℕ → ℕ → ℕ → ℕ → ℕ
last_line extent side fineness nodes = ceil_quotient (extent * fineness) side + margin_of nodes

-- the grid over extents with cells of a side, at a fineness, with room for so many nodes
abbrev pub grid_over : ℕ → ℕ → ℕ → ℕ → ℕ → Bounds
grid_over width height side fineness nodes = record {
  left = neg_ℤ (pos (margin_of nodes));
  right = pos (last_line width side fineness nodes);
  bottom = neg_ℤ (pos (margin_of nodes));
  top = pos (last_line height side fineness nodes);
}

abbrev pub grid_of : List Point → ℕ → ℕ → Bounds
grid_of ps side fineness = grid_over (width_of ps) (height_of ps) side fineness (length ps)

-- the extents of points
pub record AreExtents (ps : List Point) (e : Extents) : Type 0 where
  pub least_east : e.least.x ≡ least_number (map (coordinate true) ps)
  pub least_north : e.least.y ≡ least_number (map (coordinate false) ps)
  pub width : e.width ≡ width_of ps
  pub height : e.height ≡ height_of ps
  pub wide : e.width ≤ 600000000
  pub high : e.height ≤ 600000000
  pub near_east : unsigned_abs e.least.x ≤ 300000000
  pub near_north : unsigned_abs e.least.y ≤ 300000000
