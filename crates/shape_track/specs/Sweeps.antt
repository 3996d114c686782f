-- Least costs of the stations from one on, for each place from which they may be placed.
use Rattle.std.specs.Prelude.{◌≡◌, ℕ, ◌+◌, ◌-◌, ◌*◌, ◌<◌, ◌≤◌, min, Bool, true, false, nat_le, List, ◌∷◌, length, slice_index, slice_index_or}
use Rattle.map_base.specs.declared.point.Point.{Point}
use Rattle.fixed_plane.specs.Measures.{dist2_of}
use Rattle.shape_track.specs.Snaps.{sample_at, ArePlacesFrom, cost_of, IsSnapFrom}

-- whether a place is taken
abbrev pub taken_at : List Bool → ℕ → Bool
taken_at row place = slice_index_or row place false

-- c is the least cost of places from a floor on
pub record IsLeastCost (samples stations : List Point) (floor c : ℕ) : Type 0 where
  pub places : List ℕ
  pub placed : ArePlacesFrom floor (length samples) stations places
  pub reached : cost_of samples stations places ≡ c
  pub least : (others : List ℕ) → ArePlacesFrom floor (length samples) stations others → c ≤ cost_of samples stations others

-- for each floor the least cost from there on
pub record AreLeastCosts (samples stations : List Point) (costs : List ℕ) : Type 0 where
  pub count : length costs ≡ length samples
  pub least : (floor : ℕ) → floor < length samples → IsLeastCost samples stations floor (slice_index costs floor)

-- the cost of a station at a place, and of the stations after it from there on
abbrev pub cost_at : List Point → Point → List ℕ → ℕ → ℕ
cost_at samples station rest place = dist2_of station (sample_at samples place) + slice_index rest place

-- places are gone through from the last one down to a floor: at each the lesser of what it costs to take it
-- and of what it costs to take a later one; it is taken where that is no more
pub record IsSweptDown (samples : List Point) (station : Point) (rest costs : List ℕ) (row : List Bool) (floor : ℕ) : Type 0 where
  pub last : (place : ℕ) → floor ≤ place → place + 1 ≡ length samples → slice_index costs place ≡ cost_at samples station rest place
  pub last_taken : (place : ℕ) → floor ≤ place → place + 1 ≡ length samples → taken_at row place ≡ true
  pub lesser : (place : ℕ) → floor ≤ place → place + 1 < length samples → slice_index costs place ≡ min (cost_at samples station rest place) (slice_index costs (place + 1))
  pub taken : (place : ℕ) → floor ≤ place → place + 1 < length samples → taken_at row place ≡ nat_le (cost_at samples station rest place) (slice_index costs (place + 1))

-- a row leads from a floor to a place where that is the first one taken
pub record LeadsTo (row : List Bool) (floor place : ℕ) : Type 0 where
  pub above : floor ≤ place
  pub taken : taken_at row place ≡ true
  pub passed : (other : ℕ) → floor ≤ other → other < place → taken_at row other ≡ false

-- the places to which a row leads begin snaps: where it leads from a floor to a place, that place and a snap
-- of the later stations from there on are a snap from the floor on
pub record Leads (samples : List Point) (station : Point) (later : List Point) (row : List Bool) : Type 0 where
  pub count : length row ≡ length samples
  pub last : taken_at row (length samples - 1) ≡ true
  pub begins : (floor place : ℕ) (rest : List ℕ) → place < length samples → LeadsTo row floor place → IsSnapFrom place samples later rest →
      IsSnapFrom floor samples (station ∷ later) (place ∷ rest)

-- the costs are bounded by that of some stations, each at the greatest distance there is
abbrev pub AreBounded : ℕ → List ℕ → Type 0
AreBounded stations costs = (place : ℕ) → place < length costs → slice_index costs place ≤ stations * 720000000000000000
