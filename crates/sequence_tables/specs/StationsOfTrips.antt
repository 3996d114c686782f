-- The stations of trips, gathered by the trips' numbers.
use Rattle.std.specs.Prelude.{ℕ, zero, suc, List, [], ◌∷◌, ◌++◌, map}
use Rattle.std.specs.List.{slice_index_or}
use Rattle.map_base.specs.declared.ids.StationId.{StationId}
use Rattle.ordered_entries.specs.declared.entry.Entry.{Entry}
use Rattle.ordered_entries.specs.Entries.{places_of}

-- the station at a place
abbrev pub station_there : List StationId → ℕ → StationId
station_there stations place = slice_index_or stations place (record { 0 = 0 })

-- the stations of a key's entries by rising sequences
abbrev pub stations_of_key : List StationId → List Entry → ℕ → List StationId
stations_of_key stations entries key = map (station_there stations) (places_of entries key)

-- the stations of the entries of each key below a number, by rising sequences
abbrev pub stations_by_key : List StationId → List Entry → ℕ → List (List StationId)
stations_by_key stations entries zero = []
stations_by_key stations entries (suc n) = stations_by_key stations entries n ++ stations_of_key stations entries n ∷ []
