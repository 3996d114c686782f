-- A table of places in a round, and the ways out of the segments of a round by their places.
use Rattle.std.specs.Prelude.{◌≡◌, ◌≢◌, ℕ, ◌<◌, List, [], ◌∷◌, ◌++◌, length, map, All, Contains, slice_index, slice_index_or, slice_set}
use Rattle.std.specs.Prelude.{Vec}
use Rattle.std.specs.Global.{Global}
use Rattle.map_base.specs.declared.ids.SegId.{SegId}
use Rattle.map_base.specs.declared.ids.LineId.{LineId}
use Rattle.graph_core.specs.declared.parts.Join.{Join}
use Rattle.order_terms.specs.declared.found.Way.{Way}
use Rattle.order_terms.specs.Terms.{place_in, way, ways_from}

-- the table has an entry for each segment of the round: its place in the round
pub record TellPlaces (round : List SegId) (table : List ℕ) : Type 0 where
  pub known : All (λ s. s.0 < length table) round
  pub at : All (λ s. slice_index table s.0 ≡ place_in round s) round

-- a join names two different segments of the round
pub record IsBetween (round : List SegId) (j : Join) : Type 0 where
  pub differ : j.e.0 ≢ j.f.0
  pub lesser : Contains round j.e
  pub greater : Contains round j.f

-- the ways in each list
abbrev pub way_lists : List (Vec Way Global) → List (List Way)
way_lists lists = map (λ (ways : Vec Way Global). ways.items) lists

-- the list at the place of the segment e has one more way: that of a line on to f
abbrev pub with_way : List SegId → LineId → SegId → SegId → List (List Way) → List (List Way)
with_way round line e f lists = slice_set lists (place_in round e) (slice_index_or lists (place_in round e) [] ++ way round e line f ∷ [])

-- the lists at the places of both segments of a join have one more way: that of its line on to the other
abbrev pub with_ways_by : List SegId → Join → List (List Way) → List (List Way)
with_ways_by round j lists = with_way round j.line j.f j.e (with_way round j.line j.e j.f lists)

-- there is a list for each place of the round, and the one at the place of a segment holds the ways out of it
pub record AreWays (round : List SegId) (joins : List Join) (lists : List (List Way)) : Type 0 where
  pub each : length lists ≡ length round
  pub at : All (λ s. slice_index_or lists (place_in round s) [] ≡ ways_from round joins s) round
