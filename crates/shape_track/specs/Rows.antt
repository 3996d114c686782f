-- The rows of the table of the snap, one for each station.
use Rattle.std.specs.Prelude.{◌≡◌, ℕ, ◌-◌, ◌<◌, Bool, List, [], ◌∷◌, drop, length, slice_index_or}
use Rattle.map_base.specs.declared.point.Point.{Point}
use Rattle.shape_track.specs.Sweeps.{Leads}

-- a row leads where the list begins with a station
abbrev pub LeadsFirst : List Point → List Point → List Bool → Type 0
LeadsFirst samples [] row = Unit {0}
LeadsFirst samples (station ∷ later) row = Leads samples station later row

-- the row that stands k places before the end is that of station k, and leads it before the later ones
abbrev pub AreRows : List Point → List Point → List (List Bool) → Type 0
AreRows samples stations rows =
    (k : ℕ) (row : List Bool) → k < length rows → row ≡ slice_index_or rows k row → LeadsFirst samples (drop (length stations - 1 - k) stations) row
