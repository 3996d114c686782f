-- What edits that stand make of a feed's tables and of the settings.
use Rattle.std.specs.Prelude.{ℕ, Bool, true, false, ◌≤◌, ◌≡◌, ◌⊎◌, ℤ, List, [], ◌∷◌, slice_set, if◌then◌else◌}
use Rattle.std.specs.Str.{bytes_eq}
use Rattle.std.specs.Ordering.{nat_cmp, match_ordering}
use Rattle.std.specs.Cmp.Lexicographic.{slice_cmp}
use Rattle.map_base.specs.Settings.{Choices, AreLight, IsImportance}
use Rattle.transit_feed.specs.Feeds.{Feed, ArePlace}
use Rattle.transit_feed.specs.declared.line.Line.{Line}
use Rattle.transit_feed.specs.declared.station.Station.{Station}
use Rattle.map_edits.specs.declared.edit.Edit.{Edit}
use Rattle.map_edits.specs.declared.edit.Edit.TheVariants.{Hide, Show, Weight, Near, Cell, Budget, Rename, Move, Colour, Importance}

abbrev pub line_id : Line → List ℕ
line_id line = line.id

abbrev pub station_id : Station → List ℕ
station_id station = station.id

-- the list with each element changed that has this id
abbrev pub at_id : {A : Type 0} → (A → List ℕ) → List ℕ → (A → A) → List A → List A
at_id id_of id change [] = []
at_id id_of id change (x ∷ xs) = (if bytes_eq id (id_of x) then change x else x) ∷ at_id id_of id change xs

abbrev pub hidden_is : Bool → Line → Line
hidden_is hidden line = record line { hidden = hidden }

abbrev pub colour_is : List ℕ → Line → Line
colour_is colour line = record line { colour = colour }

abbrev pub name_is : List ℕ → Station → Station
name_is name station = record station { name = name }

abbrev pub place_is : ℤ → ℤ → Station → Station
place_is lat lon station = record station { lat = lat; lon = lon }

-- the lines, once an edit stands
abbrev pub lines_by : Edit → List Line → List Line
lines_by (Hide id) lines = at_id line_id id (hidden_is true) lines
lines_by (Show id) lines = at_id line_id id (hidden_is false) lines
lines_by (Colour id colour) lines = at_id line_id id (colour_is colour) lines
lines_by edit lines = lines

-- the stations, once an edit stands
abbrev pub stations_by : Edit → List Station → List Station
stations_by (Rename id name) stations = at_id station_id id (name_is name) stations
stations_by (Move id lat lon) stations = at_id station_id id (place_is lat lon) stations
stations_by edit stations = stations

-- pairs by rising ids with this pair in its place, which replaces that of the same id
abbrev pub with_pair : List ℕ → ℕ → List (List ℕ × ℕ) → List (List ℕ × ℕ)
with_pair id number [] = (id, number) ∷ []
with_pair id number (p ∷ rest) = match_ordering (slice_cmp nat_cmp p.0 id) (p ∷ with_pair id number rest) ((p.0, number) ∷ rest) ((id, number) ∷ p ∷ rest)

-- the settings, once an edit stands
abbrev pub choices_by : Edit → Choices → Choices
choices_by (Weight station weights) choices = record choices { weights = slice_set choices.weights (if station then 1 else 0) weights }
choices_by (Near near) choices = record choices { near = near }
choices_by (Cell cell) choices = record choices { cell = cell }
choices_by (Budget budget) choices = record choices { budget = budget }
choices_by (Importance id number) choices = record choices { importance = with_pair id number choices.importance }
choices_by edit choices = choices

-- the lines, once edits stand, in their order
abbrev pub lines_after : List Edit → List Line → List Line
lines_after [] lines = lines
lines_after (edit ∷ later) lines = lines_after later (lines_by edit lines)

-- the stations, once edits stand, in their order
abbrev pub stations_after : List Edit → List Station → List Station
stations_after [] stations = stations
stations_after (edit ∷ later) stations = stations_after later (stations_by edit stations)

-- the settings, once edits stand, in their order
abbrev pub choices_after : List Edit → Choices → Choices
choices_after [] choices = choices
choices_after (edit ∷ later) choices = choices_after later (choices_by edit choices)

-- the tables, once edits stand, in their order
abbrev pub feed_after : List Edit → Feed → Feed
feed_after edits feed = record feed { stations = stations_after edits feed.stations; lines = lines_after edits feed.lines }

-- the tables and the settings that edits make of these
abbrev pub edited : Feed → Choices → List Edit → Feed × Choices
edited feed choices edits = (feed_after edits feed, choices_after edits choices)

-- the values of an edit are in the ranges of what it sets
abbrev pub IsInRange : Edit → Type 0
IsInRange (Weight station weights) = AreLight weights
IsInRange (Near near) = (20 ≤ near) × (near ≤ 20000)
IsInRange (Cell cell) = (cell ≡ 0) ⊎ ((10 ≤ cell) × (cell ≤ 1000000))
IsInRange (Budget budget) = (1 ≤ budget) × (budget ≤ 100000)
IsInRange (Move id lat lon) = ArePlace lat lon
IsInRange (Importance id number) = IsImportance number
IsInRange edit = Unit {0}
