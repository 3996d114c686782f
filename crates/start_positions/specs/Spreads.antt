-- Spreading: nodes moved towards even ranks, on each axis by itself, before they get their homes.
use Rattle.std.specs.Prelude.{ℕ, ◌+◌, ◌-◌, ◌*◌, ◌/◌, ◌==◌, nat_lt, nat_le, Bool, true, false, List, length, map, count_by, slice_index_or, if◌then◌else◌}
use Rattle.map_base.specs.declared.point.Point.{Point}
use Rattle.start_positions.specs.declared.placing.Offset.{Offset}
use Rattle.start_positions.specs.declared.spreading.Place.{Place}
use Rattle.start_positions.specs.Cells.{height_of, offsets_of, width_of}

-- how far an offset lies east, or north
abbrev pub offset_along : Bool → Offset → ℕ
offset_along east o = if east then o.east else o.north

abbrev pub offsets_along : Bool → List Offset → List ℕ
offsets_along east os = map (offset_along east) os

-- how many numbers are less than one, and how many are not greater
abbrev pub below : List ℕ → ℕ → ℕ
below ats at = count_by (λ a. nat_lt a at) ats

abbrev pub upto : List ℕ → ℕ → ℕ
upto ats at = count_by (λ a. nat_le a at) ats

-- The even place of one of the numbers on an axis: by its rank, from 0 for the first to the extent for the last, where
-- equal numbers have the middle of their ranks. A number that is alone stays.
abbrev pub even_place : ℕ → List ℕ → ℕ → ℕ
even_place extent ats at =
    if length ats == 1 then at else (below ats at + upto ats at - 1) * extent / (2 * (length ats - 1))

-- where a node lies, and its even place among the numbers on both axes
abbrev pub place_by : ℕ → ℕ → List ℕ → List ℕ → Offset → Place
place_by width height easts norths o = record {
  at = o;
  even = record { east = even_place width easts o.east; north = even_place height norths o.north };
}

-- where a node lies, and its even place among nodes at these offsets
abbrev pub place_among : ℕ → ℕ → List Offset → Offset → Place
place_among width height os o = place_by width height (offsets_along true os) (offsets_along false os) o

-- where each of a graph's nodes lies, and its even place
abbrev pub places_of : List Point → List Place
places_of ps = map (place_among (width_of ps) (height_of ps) (offsets_of ps)) (offsets_of ps)

-- so many percent of the way from one number to another
abbrev pub part_way : ℕ → ℕ → ℕ → ℕ
part_way percent from to = ((100 - percent) * from + percent * to) / 100

-- where a node is put: so many percent of the way from where it lies to its even place
abbrev pub spread_place : ℕ → Place → Offset
spread_place percent p = record {
  east = part_way percent p.at.east p.even.east;
  north = part_way percent p.at.north p.even.north;
}

-- where each of a graph's nodes is put
abbrev pub spread_offsets : List Point → ℕ → List Offset
spread_offsets ps percent = map (spread_place percent) (places_of ps)

-- how far east or north a node is put
abbrev pub spread_along : List Point → ℕ → Bool → ℕ → ℕ
spread_along ps percent east n = slice_index_or (offsets_along east (spread_offsets ps percent)) n 0
