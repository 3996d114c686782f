-- A feed, and when its tables fit together.
use Rattle.std.specs.Prelude.{◌≢◌, ℕ, ℤ, ◌<◌, ◌≤◌, ◌^◌, unsigned_abs, List, [], ◌∷◌, length, map, All, Option, Some, None, bytes_eq}
use Rattle.std.specs.List.{IsDistinct}
use Rattle.map_base.specs.declared.ids.StationId.{StationId}
use Rattle.transit_feed.specs.declared.station.Station.{Station}
use Rattle.transit_feed.specs.declared.line.Line.{Line}
use Rattle.transit_feed.specs.declared.pattern.Pattern.{Pattern}
use Rattle.transit_feed.specs.declared.shape.Shape.{Shape}

-- the tables of a feed as contracts see them
pub record Feed : Type 0 where
  pub stations : List Station
  pub lines : List Line
  pub patterns : List Pattern
  pub shapes : List Shape

-- degrees are those of a place: at most 90 degrees of latitude and 180 of longitude, either way
pub record ArePlace (lat lon : ℤ) : Type 0 where
  pub latitude : unsigned_abs lat ≤ 90000000
  pub longitude : unsigned_abs lon ≤ 180000000

-- the degrees of a station are those of a place
abbrev pub IsPlaced : Station → Type 0
IsPlaced station = ArePlace station.lat station.lon

-- a list has fewer than 2 ^ 32 entries
abbrev pub AreFew : {A : Type 0} → List A → Type 0
AreFew items = length items < 2 ^ 32

-- a shape has at least two points, each of them a place
pub record IsShape (shape : Shape) : Type 0 where
  pub some_points : 2 ≤ length shape.points
  pub few_points : AreFew shape.points
  pub places : All (λ point. ArePlace point.0 point.1) shape.points

-- no station stands twice in a row
abbrev pub AreApart : List StationId → Type 0
AreApart [] = Unit {0}
AreApart (a ∷ []) = Unit {0}
AreApart (a ∷ b ∷ rest) = (a.0 ≢ b.0) × AreApart (b ∷ rest)

-- a shape that a pattern names is there
abbrev pub NamesShape : ℕ → Option ℕ → Type 0
NamesShape count None = Unit {0}
NamesShape count (Some shape) = shape < count

-- a pattern has at least two stations, none twice in a row, and names what the feed has
pub record IsPattern (feed : Feed) (pattern : Pattern) : Type 0 where
  pub line : pattern.line.0 < length feed.lines
  pub some_stops : 2 ≤ length pattern.stops
  pub few_stops : AreFew pattern.stops
  pub stops : All (λ (s : StationId). s.0 < length feed.stations) pattern.stops
  pub apart : AreApart pattern.stops
  pub shape : NamesShape (length feed.shapes) pattern.shape

-- the tables fit together
pub record IsFeed (feed : Feed) : Type 0 where
  pub few_stations : AreFew feed.stations
  pub few_lines : AreFew feed.lines
  pub few_patterns : AreFew feed.patterns
  pub few_shapes : AreFew feed.shapes
  pub placed : All IsPlaced feed.stations
  pub shapes : All IsShape feed.shapes
  pub patterns : All (IsPattern feed) feed.patterns
  pub station_ids : IsDistinct bytes_eq (map (λ (s : Station). s.id) feed.stations)
  pub line_ids : IsDistinct bytes_eq (map (λ (l : Line). l.id) feed.lines)
