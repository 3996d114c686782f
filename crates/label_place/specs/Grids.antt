-- A table of what names keep clear of, by the cells of a coarse grid.
use Rattle.std.specs.Prelude.{ℕ, ◌≡◌, zero, suc, ◌+◌, ◌-◌, ◌/◌, ◌<◌, ◌≤◌, ◌==◌, ◌&&◌, ◌||◌, Bool, false, ℤ, pos, ◌+ℤ◌, ◌-ℤ◌, int_le, int_lt, unsigned_abs, List, [], ◌∷◌, length, map, take, if◌then◌else◌, Option, Some, None, slice_index_or}
use Rattle.std.specs.List.{list_any, flat_map, range_with_len}
use Rattle.std.specs.Int.{int_min, int_max}
use Rattle.std.specs.HashMap.{get}
use Rattle.octi_grid.specs.declared.dir.Dir.{Dir}
use Rattle.octi_grid.specs.declared.point.GridPoint.{GridPoint}
use Rattle.octi_grid.specs.Ways.{east_of, north_of, step_from}
use Rattle.line_offsets.specs.declared.corner.Corner.{Corner}
use Rattle.line_offsets.specs.Shifts.{drawn}
use Rattle.svg_writer.specs.declared.bounds.Bounds.{Bounds}
use Rattle.label_place.specs.declared.strokes.Stroke.{Stroke}
use Rattle.label_place.specs.declared.strokes.Times.{Times}
use Rattle.label_place.specs.declared.things.Thing.{Thing}
use Rattle.label_place.specs.declared.things.Thing.TheVariants.{Area, Line}
use Rattle.label_place.specs.declared.cells.Cell.{Cell}
use Rattle.label_place.specs.declared.cells.Cells.{Cells}
use Rattle.label_place.specs.declared.grid.Entry.{Entry}
use Rattle.label_place.specs.declared.grid.Grid.{Grid}
use Rattle.label_place.specs.Boxes.{holds, share_point, wider}
use Rattle.label_place.specs.Strokes.{point_on, step_points}

-- a box of such numbers
pub record IsBox (b : Bounds) : Type 0 where
  pub left : unsigned_abs b.left ≤ 549755813888
  pub right : unsigned_abs b.right ≤ 549755813888
  pub top : unsigned_abs b.top ≤ 549755813888
  pub bottom : unsigned_abs b.bottom ≤ 549755813888

-- a step of such numbers
pub record IsStroke (s : Stroke) : Type 0 where
  pub across : unsigned_abs s.start.x ≤ 3000000
  pub along : unsigned_abs s.start.y ≤ 3000000
  pub margin : s.margin ≤ 700000000

abbrev pub IsThing : Thing → Type 0
IsThing (Area b) = IsBox b
IsThing (Line s) = IsStroke s

-- ---- steps

-- how far south a step goes
abbrev pub south_of : Dir → ℤ
south_of d = pos 0 -ℤ north_of d

-- the times from 0 to 100 at which a coordinate that changes in this sense lies between two numbers
abbrev pub times : ℤ → ℤ → ℤ → ℤ → Times
times from sense low high =
    if int_lt (pos 0) sense then record { first = low -ℤ from; last = high -ℤ from }
    else if int_lt sense (pos 0) then record { first = from -ℤ high; last = from -ℤ low }
    else if int_le low from && int_le from high then record { first = pos 0; last = pos 100 }
    else record { first = pos 1; last = pos 0 }

-- times that can be reckoned with
pub record AreTimes (t : Times) : Type 0 where
  pub first : unsigned_abs t.first ≤ 2199023255552
  pub last : unsigned_abs t.last ≤ 2199023255552

-- some time from 0 to 100 is one of both
abbrev pub some_time : Times → Times → Bool
some_time a b = int_le (int_max (int_max a.first b.first) (pos 0)) (int_min (int_min a.last b.last) (pos 100))

-- a box holds a point of a step
abbrev pub holds_some : Bounds → Corner → Dir → Bool
holds_some b start d = some_time (times start.x (east_of d) b.left b.right) (times start.y (south_of d) b.top b.bottom)

-- ---- things

-- the box of a name meets a thing: it shares a point with an area, or comes too near to a line
abbrev pub meets : Bounds → Thing → Bool
meets box (Area b) = share_point box b
meets box (Line s) = list_any (holds (wider s.margin box)) (step_points s.start s.dir)

-- the least box that holds two points
abbrev pub box_of_two : Corner → Corner → Bounds
box_of_two a b = record { left = int_min a.x b.x; right = int_max a.x b.x; top = int_min a.y b.y; bottom = int_max a.y b.y }

-- the box of the points of a step
abbrev pub span : Corner → Dir → Bounds
span start d = box_of_two start (point_on start d 100)

-- the box that a box shares a point with where it meets a thing
abbrev pub reach : Thing → Bounds
reach (Area b) = b
reach (Line s) = wider s.margin (span s.start s.dir)

-- the steps of a way from a grid point, with how far names keep from them
abbrev pub strokes_from : ℕ → GridPoint → List Dir → List Thing
strokes_from margin p [] = []
strokes_from margin p (d ∷ ds) = Line (record { start = drawn p; dir = d; margin = margin }) ∷ strokes_from margin (step_from p d) ds

-- ---- cells

abbrev pub is_cell : Cell → Cell → Bool
is_cell p q = (p.column == q.column) && (p.row == q.row)

-- how far a coordinate is above the least that can be reckoned with
abbrev pub above : ℤ → ℕ
above z = unsigned_abs (int_max (z +ℤ pos 1099511627776) (pos 0))

-- the column or the row of a coordinate
abbrev pub line_of : ℕ → ℤ → ℕ
line_of side z = above z / side

-- the first and the last column and row of a box
abbrev pub cells_of : ℕ → Bounds → Cells
cells_of side b = record { left = line_of side b.left; right = line_of side b.right; top = line_of side b.top; bottom = line_of side b.bottom }

-- the cells of so many columns of a row
abbrev pub cells_along : ℕ → ℕ → ℕ → List Cell
cells_along row from count = map (λ (column : ℕ). let q : Cell = record { column = column; row = row } in q) (range_with_len from count)

-- the cells of a row
abbrev pub row_cells : Cells → ℕ → List Cell
row_cells cs row = cells_along row cs.left (cs.right + 1 - cs.left)

-- the cells of all rows
abbrev pub cells_in : Cells → List Cell
cells_in cs = flat_map (row_cells cs) (range_with_len cs.top (cs.bottom + 1 - cs.top))

-- ---- the table

-- what reads past the entries fall back on
abbrev pub no_entry : Entry
no_entry = record {
  cell = record { column = 0; row = 0 };
  thing = Area (record { left = pos 0; right = pos 0; top = pos 0; bottom = pos 0 });
  earlier = None;
}

-- the last of the first n entries that is of a cell
abbrev pub last_before : Cell → List Entry → ℕ → Option ℕ
last_before q es zero = None
last_before q es (suc n) = if is_cell q (slice_index_or es n no_entry).cell then Some n else last_before q es n

-- each entry names the one before it of its cell, and the table of heads the last of each cell
pub record IsLinked (g : Grid) : Type 0 where
  pub side : 0 < g.side
  pub heads : (q : Cell) → get is_cell g.heads q ≡ last_before q g.entries.items (length g.entries.items)
  pub earlier : (k : ℕ) → k < length g.entries.items
      → (slice_index_or g.entries.items k no_entry).earlier ≡ last_before (slice_index_or g.entries.items k no_entry).cell g.entries.items k
  pub things : (k : ℕ) → k < length g.entries.items → IsThing (slice_index_or g.entries.items k no_entry).thing

-- an entry of this cell is met by a box
abbrev pub hits : Bounds → Cell → Entry → Bool
hits box q e = is_cell q e.cell && meets box e.thing

-- some entry of a cell is met by a box
abbrev pub meets_at : Grid → Bounds → Cell → Bool
meets_at g box q = list_any (hits box q) g.entries.items

-- some entry of a cell of a box is met by it
abbrev pub meets_some : Grid → Bounds → Bool
meets_some g box = list_any (meets_at g box) (cells_in (cells_of g.side box))

-- some entry of a cell is met by a box, of those up to a place, where there is one
abbrev pub hits_upto : Bounds → Cell → List Entry → Option ℕ → Bool
hits_upto box q es None = false
hits_upto box q es (Some i) = list_any (hits box q) (take (i + 1) es)

-- a table grew: at each cell a box meets what it met before, and more where this test says so
pub record Grows (old new : Grid) (more : Bounds → Cell → Bool) : Type 0 where
  pub linked : IsLinked new
  pub side : new.side ≡ old.side
  pub found : (box : Bounds) (q : Cell) → meets_at new box q ≡ (meets_at old box q || more box q)

-- a thing is met at one of these cells
abbrev pub put_in : List Cell → Thing → Bounds → Cell → Bool
put_in cells t box q = list_any (is_cell q) cells && meets box t

-- a thing is met at a cell of its own
abbrev pub found_at : ℕ → Bounds → Cell → Thing → Bool
found_at side box q t = put_in (cells_in (cells_of side (reach t))) t box q

-- a table grew by these things
abbrev pub Adds : Grid → Grid → List Thing → Type 0
Adds old new things = Grows old new (λ box q. list_any (found_at old.side box q) things)
