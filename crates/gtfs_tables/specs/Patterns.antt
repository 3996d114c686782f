-- Patterns: the stations that trips serve.
use Rattle.std.specs.Prelude.{ℕ, Bool, true, false, ◌&&◌, List, [], ◌∷◌, length, Option, Some, None, if◌then◌else◌, nat_le, nat_eq}
use Rattle.std.specs.List.{cons_option, dedup}
use Rattle.table_rows.specs.Firsts.{firsts}
use Rattle.map_base.specs.declared.ids.StationId.{StationId}
use Rattle.transit_feed.specs.declared.pattern.Pattern.{Pattern}

-- whether two stations are one
abbrev pub is_same_station : StationId → StationId → Bool
is_same_station a b = nat_eq a.0 b.0

-- stations with immediate repeats dropped
abbrev pub apart : List StationId → List StationId
apart stations = dedup is_same_station stations

-- the pattern of a line, stations and a shape, where there are two stations
abbrev pub pattern_of : ℕ → List StationId → Option ℕ → Option Pattern
pattern_of line stops shape = if nat_le 2 (length stops) then Some (record { line = record { 0 = line }; stops = stops; shape = shape }) else None

-- the pattern of a trip, where it is selected
abbrev pub trip_pattern : Option ℕ → List StationId → Option ℕ → Option Pattern
trip_pattern None stations shape = None
trip_pattern (Some line) stations shape = pattern_of line (apart stations) shape

-- the patterns of trips, told the line, stations and shape of each
abbrev pub trip_patterns : List (Option ℕ) → List (List StationId) → List (Option ℕ) → List Pattern
trip_patterns (line ∷ lines) (stations ∷ others) (shape ∷ shapes) = cons_option (trip_pattern line stations shape) (trip_patterns lines others shapes)
trip_patterns lines stations shapes = []

abbrev pub is_same_shape : Option ℕ → Option ℕ → Bool
is_same_shape None None = true
is_same_shape (Some a) (Some b) = nat_eq a b
is_same_shape a b = false

abbrev pub are_same_stations : List StationId → List StationId → Bool
are_same_stations [] [] = true
are_same_stations (a ∷ first) (b ∷ second) = nat_eq a.0 b.0 && are_same_stations first second
are_same_stations first second = false

-- whether two patterns have one line, the same stations, and one shape or both none
abbrev pub is_same_pattern : Pattern → Pattern → Bool
is_same_pattern a b = nat_eq a.line.0 b.line.0 && (are_same_stations a.stops b.stops && is_same_shape a.shape b.shape)

-- the patterns of a feed, each once, told the line, stations and shape of each trip
abbrev pub patterns_of : List (Option ℕ) → List (List StationId) → List (Option ℕ) → List Pattern
patterns_of lines stations shapes = firsts is_same_pattern (trip_patterns lines stations shapes)
