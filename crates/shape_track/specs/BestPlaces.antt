-- The best places of stations, from one on, as far as they cost no more than a limit.
use Rattle.std.specs.Prelude.{◌≡◌, ℕ, ◌+◌, ◌-◌, ◌<◌, ◌≤◌, ◌⊎◌, max, unsigned_abs, ◌-ℤ◌, List, [], ◌∷◌, ◌++◌, Option, Some, None, drop, length, slice_index_or}
use Rattle.map_base.specs.declared.point.Point.{Point}
use Rattle.shape_track.specs.declared.best_places.BestPlace.{BestPlace}
use Rattle.shape_track.specs.Snaps.{sample_at, ArePlacesFrom, cost_of, IsSnapFrom}
use Rattle.shape_track.specs.Sweeps.{IsLeastCost}

-- how far two points are apart, along the axis along which that is more
abbrev pub apart_of : Point → Point → ℕ
apart_of a b = max (unsigned_abs (b.x -ℤ a.x)) (unsigned_abs (b.y -ℤ a.y))

-- no sample is further from the next, along an axis, than a gap
abbrev pub AreWithin : ℕ → List Point → Type 0
AreWithin gap samples = (place : ℕ) → place + 1 < length samples → apart_of (sample_at samples place) (sample_at samples (place + 1)) ≤ gap

-- what stands in a row
abbrev pub entry_at : List BestPlace → ℕ → BestPlace
entry_at row k = slice_index_or row k (record { place = 0; cost = 0 })

-- the places of a row fall
abbrev pub IsFalling : List BestPlace → Type 0
IsFalling row = (j k : ℕ) → j < k → k < length row → (entry_at row k).place < (entry_at row j).place

-- the entries of a row are places of samples, falling, each with a cost within the limit
pub record IsRow (count limit : ℕ) (row : List BestPlace) : Type 0 where
  pub falling : IsFalling row
  pub in_range : (k : ℕ) → k < length row → (entry_at row k).place < count
  pub within : (k : ℕ) → k < length row → (entry_at row k).cost ≤ limit

-- entry k is the one of the least place from a floor on
pub record PointsTo (row : List BestPlace) (floor k : ℕ) : Type 0 where
  pub within : k < length row
  pub above : floor ≤ (entry_at row k).place
  pub last : (j : ℕ) → k < j → j < length row → (entry_at row j).place < floor

-- no entry has a place from a floor on
abbrev pub PointsNowhere : List BestPlace → ℕ → Type 0
PointsNowhere row floor = (j : ℕ) → j < length row → (entry_at row j).place < floor

-- a place begins snaps: it and a snap of the later stations from there on are a snap from a floor on
abbrev pub BeginsSnaps : List Point → List Point → ℕ → ℕ → Type 0
BeginsSnaps samples [] floor place = Unit {0}
BeginsSnaps samples (s ∷ ss) floor place = (rest : List ℕ) → IsSnapFrom place samples ss rest → IsSnapFrom floor samples (s ∷ ss) (place ∷ rest)

-- a row tells what stations cost from a floor on: the entry to which it points has the least cost, and begins snaps;
-- where it points to none, they cost more than the limit
pub record IsLed (samples stations : List Point) (limit : ℕ) (row : List BestPlace) (floor : ℕ) : Type 0 where
  pub cost : (k : ℕ) → PointsTo row floor k → IsLeastCost samples stations floor (entry_at row k).cost
  pub begins : (k : ℕ) → PointsTo row floor k → BeginsSnaps samples stations floor (entry_at row k).place
  pub nowhere : PointsNowhere row floor → (others : List ℕ) → ArePlacesFrom floor (length samples) stations others → limit < cost_of samples stations others

-- the same from each place on
abbrev pub AreLed : List Point → List Point → ℕ → List BestPlace → Type 0
AreLed samples stations limit row = (floor : ℕ) → floor < length samples → IsLed samples stations limit row floor

-- where the one row tells what the later stations cost, the other does so with one station before them
abbrev pub LeadsOn : List Point → Point → ℕ → List BestPlace → List BestPlace → Type 0
LeadsOn samples station limit later row = (ss : List Point) → AreLed samples ss limit later → AreLed samples (station ∷ ss) limit row

-- the cost of the entry to which a row points, if it points to one
abbrev pub IsCostFrom : List BestPlace → ℕ → Option ℕ → Type 0
IsCostFrom row floor None = PointsNowhere row floor
IsCostFrom row floor (Some cost) = (k : ℕ) × PointsTo row floor k × ((entry_at row k).cost ≡ cost)

-- the place of the entry to which a row points, if it points to one
abbrev pub IsPlaceFrom : List BestPlace → ℕ → Option ℕ → Type 0
IsPlaceFrom row floor None = PointsNowhere row floor
IsPlaceFrom row floor (Some place) = (k : ℕ) × PointsTo row floor k × ((entry_at row k).place ≡ place)

-- a cost is above the limit, or above that of the last entry
abbrev pub IsDear : List BestPlace → ℕ → ℕ → Type 0
IsDear row cost limit = (limit < cost) ⊎ ((0 < length row) × ((entry_at row (length row - 1)).cost < cost))

-- a cost is within the limit, and no more than that of the last entry, if there is one
abbrev pub IsCheap : List BestPlace → ℕ → ℕ → Type 0
IsCheap row cost limit = (cost ≤ limit) × ((length row ≡ 0) ⊎ (cost ≤ (entry_at row (length row - 1)).cost))

-- a place is added at the cost of its distance and of what later stations cost from there on, if it is cheap
abbrev pub AddsPlace : List BestPlace → List BestPlace → ℕ → ℕ → Option ℕ → ℕ → Type 0
AddsPlace old new place square None limit = new ≡ old
AddsPlace old new place square (Some rest) limit =
    ((new ≡ old) × IsDear old (square + rest) limit)
    ⊎ ((new ≡ old ++ record { place = place; cost = square + rest } ∷ []) × IsCheap old (square + rest) limit)

-- so many entries of a row, from the first on, have places from a floor on
pub record AreSeen (row : List BestPlace) (floor seen : ℕ) : Type 0 where
  pub count : seen ≤ length row
  pub above : (k : ℕ) → k < seen → floor ≤ (entry_at row k).place

-- the places of a station from one on are gone through
pub record IsDescent (samples : List Point) (station : Point) (limit : ℕ) (later row : List BestPlace) (place seen : ℕ) : Type 0 where
  pub in_range : place ≤ length samples
  pub entries : IsRow (length samples) limit row
  pub above : (k : ℕ) → k < length row → place ≤ (entry_at row k).place
  pub seen_above : AreSeen later place seen
  pub led : (ss : List Point) → AreLed samples ss limit later → (floor : ℕ) → place ≤ floor → floor ≤ length samples → IsLed samples (station ∷ ss) limit row floor

-- a row is that of some stations
pub record IsRowOf (samples stations : List Point) (limit : ℕ) (row : List BestPlace) : Type 0 where
  pub entries : IsRow (length samples) limit row
  pub led : AreLed samples stations limit row

-- the rows of all stations, from that of none to that of all
abbrev pub AreRowsOf : List Point → List Point → ℕ → List (List BestPlace) → Type 0
AreRowsOf samples stations limit rows =
    (k : ℕ) (row : List BestPlace) → k < length rows → row ≡ slice_index_or rows k row → IsRowOf samples (drop (length stations - k) stations) limit row
