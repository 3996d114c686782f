-- Stretches with their corridors, as one pass over all legs makes them, and what is read from them.
use Rattle.std.specs.Prelude.{ℕ, zero, suc, Bool, ◌==◌, ◌&&◌, nat_lt, List, [], ◌∷◌, ◌++◌, length, map, min, max, fold, slice_index_or, if◌then◌else◌}
use Rattle.std.specs.List.{list_any, position_or_len, range_with_len}
use Rattle.map_base.specs.declared.ids.LineId.{LineId}
use Rattle.map_base.specs.declared.point.Point.{Point}
use Rattle.way_network.specs.declared.way.Way.{Way}
use Rattle.way_network.specs.declared.way.Passage.{Passage}
use Rattle.way_network.specs.Segments.{reversed, second_of}
use Rattle.track_net.specs.Nets.{NetParts}
use Rattle.net_paths.specs.Choices.{stretch_path_of}
use Rattle.line_graph.specs.declared.stretches.Stretch.{Stretch}
use Rattle.line_graph.specs.Legs.{Leg}

-- the stretch of a line between two stations
abbrev pub stretch_between : LineId → ℕ → ℕ → Stretch
stretch_between line from to = record { line = line; low = min from to; high = max from to }

abbrev pub stretch_of_leg : Leg → Stretch
stretch_of_leg leg = stretch_between leg.line leg.from leg.to

-- two stretches are one
abbrev pub is_stretch : Stretch → Stretch → Bool
is_stretch a b = (a.line.0 == b.line.0) && ((a.low == b.low) && (a.high == b.high))

-- stretches, and the corridor of each
pub record StretchTable : Type 0 where
  pub stretches : List Stretch
  pub corridors : List (List Point)

-- the place of a stretch: its own, or the one behind the last
abbrev pub place_in : List Stretch → Stretch → ℕ
place_in stretches s = position_or_len (is_stretch s) stretches

-- stretches, once another is seen
abbrev pub noted : List Stretch → Stretch → List Stretch
noted stretches s = if list_any (is_stretch s) stretches then stretches else stretches ++ s ∷ []

-- the corridor at a place goes on with more samples, and behind the last one begins with them
abbrev pub extended : List (List Point) → ℕ → List Point → List (List Point)
extended [] place samples = samples ∷ []
extended (c ∷ cs) zero samples = (c ++ samples) ∷ cs
extended (c ∷ cs) (suc place) samples = c ∷ extended cs place samples

-- the table, once samples of a stretch are seen
abbrev pub with_samples : StretchTable → Stretch → List Point → StretchTable
with_samples table s samples = record {
  stretches = noted table.stretches s;
  corridors = extended table.corridors (place_in table.stretches s) samples;
}

abbrev pub with_leg : StretchTable → Leg → StretchTable
with_leg table leg = with_samples table (stretch_of_leg leg) leg.samples

-- no stretch
abbrev pub no_stretches : StretchTable
no_stretches = record { stretches = []; corridors = [] }

-- the table of legs
abbrev pub table_of : List Leg → StretchTable
table_of legs = fold with_leg no_stretches legs

-- a stretch and its corridor, by its place
abbrev pub stretch_at : StretchTable → ℕ → Stretch
stretch_at table place = slice_index_or table.stretches place (record { line = record { 0 = 0 }; low = 0; high = 0 })

abbrev pub corridor_at : StretchTable → ℕ → List Point
corridor_at table place = slice_index_or table.corridors place []

-- the way of a stretch along its corridor
abbrev pub way_along : ℕ → NetParts → Stretch → List Point → Way
way_along near net s corridor = record { line = s.line; points = stretch_path_of near corridor net s.low s.high }

abbrev pub way_at : ℕ → NetParts → StretchTable → ℕ → Way
way_at near net table place = way_along near net (stretch_at table place) (corridor_at table place)

-- the ways of all stretches of a table, in order
abbrev pub ways_over : ℕ → NetParts → StretchTable → List Way
ways_over near net table = map (way_at near net table) (range_with_len 0 (length table.stretches))

-- the points of a way, by its place, none where there is no such way
abbrev pub points_at : List Way → ℕ → List ℕ
points_at ways place = (slice_index_or ways place (record { line = record { 0 = 0 }; points = [] })).points

-- the points of the way of a leg's stretch
abbrev pub path_in : StretchTable → List Way → Leg → List ℕ
path_in table ways leg = points_at ways (place_in table.stretches (stretch_of_leg leg))

-- points of a way, as a leg from one station to another runs over them
abbrev pub directed_between : ℕ → ℕ → List ℕ → List ℕ
directed_between from to points = if nat_lt to from then reversed points else points

-- the passage from the leg that comes to a station from one to the leg that goes on to another
abbrev pub passage_over : StretchTable → List Way → LineId → ℕ → ℕ → ℕ → Passage
passage_over table ways line from at to = record {
  line = line;
  at = at;
  from = second_of (reversed (directed_between from at (points_at ways (place_in table.stretches (stretch_between line from at)))));
  to = second_of (directed_between at to (points_at ways (place_in table.stretches (stretch_between line at to))));
}
