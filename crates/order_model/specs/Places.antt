-- Where the lines of segments stand in orders.
use Rattle.std.specs.Prelude.{◌≡◌, ℕ, ◌+◌, ◌-◌, ◌==◌, nat_lt, Bool, ◌&&◌, List, [], ◌∷◌, length, map, not, All, Option, Some, None, if◌then◌else◌, slice_index, slice_index_or, ◌<◌}
use Rattle.std.specs.Prelude.{Vec}
use Rattle.std.specs.Global.{Global}
use Rattle.std.specs.List.{list_any}
use Rattle.std.specs.Option.{option_map}
use Rattle.map_base.specs.declared.ids.SegId.{SegId}
use Rattle.map_base.specs.declared.ids.LineId.{LineId}
use Rattle.graph_core.specs.Consistent.{AreRising}
use Rattle.order_model.specs.declared.term.Term.{Term}
use Rattle.order_model.specs.declared.term.Term.TheVariants.{Side, Link, Apart}
use Rattle.order_model.specs.Problems.{lines_on}
use Rattle.order_model.specs.Costs.{same_answer, weight_of}

-- how many lines stand before this one
abbrev pub place_of : List LineId → LineId → ℕ
place_of [] a = 0
place_of (x ∷ xs) a = if x.0 == a.0 then 0 else 1 + place_of xs a

-- the line is one of these
abbrev pub has_line : List LineId → LineId → Bool
has_line xs a = list_any (λ (b : LineId). b.0 == a.0) xs

-- what stands in a table for a line that has no place
abbrev pub no_place : ℕ
no_place = 4294967295

-- the place of a line in an order, as it stands in a table
abbrev pub place_in : List LineId → LineId → ℕ
place_in order a = if has_line order a then place_of order a else no_place

-- the place in the order of each of these lines
abbrev pub places_in : List LineId → List LineId → List ℕ
places_in lines order = map (place_in order) lines

-- where in a table the first line stands that has no place
abbrev pub first_without_place : List ℕ → Option ℕ
first_without_place [] = None
first_without_place (p ∷ places) = if p == no_place then Some 0 else option_map (λ i. 1 + i) (first_without_place places)

-- no segment has so many lines that a place could be the number of no place
abbrev pub AreShort : List (List LineId) → Type 0
AreShort segs = All (λ (lines : List LineId). length lines < no_place) segs

-- the line is one of these, and has no place in their table
abbrev pub is_left_by : List LineId → List ℕ → LineId → Bool
is_left_by lines places a = has_line lines a && slice_index places (place_of lines a) == no_place

-- tables as they lie in memory
abbrev pub tables_of : List (Vec ℕ Global) → List (List ℕ)
tables_of places = map (λ (v : Vec ℕ Global). v.items) places

-- for each segment the place of each of its lines in its order, which may lack some
pub record ArePlaces (segs orders : List (List LineId)) (places : List (List ℕ)) : Type 0 where
  pub each : length places ≡ length segs
  pub at : (s : ℕ) → s < length segs → slice_index_or places s [] ≡ places_in (slice_index_or segs s []) (slice_index_or orders s [])

-- rising lines, each of which has a place
pub record HavePlaces (segs : List (List LineId)) (places : List (List ℕ)) : Type 0 where
  pub rising : All AreRising segs
  pub each : length places ≡ length segs
  pub lines : (s : ℕ) → s < length segs → length (slice_index_or places s []) ≡ length (slice_index_or segs s [])

-- the place of a line of a segment
abbrev pub place_by : List (List LineId) → List (List ℕ) → SegId → LineId → ℕ
place_by segs places s a = slice_index (slice_index_or places s.0 []) (place_of (lines_on segs s) a)

-- two places stand next to each other
abbrev pub are_adjacent : ℕ → ℕ → Bool
are_adjacent i j = if nat_lt i j then j - i == 1 else i - j == 1

-- by the places of lines, a stands before b
abbrev pub before_by : List (List LineId) → List (List ℕ) → SegId → LineId → LineId → Bool
before_by segs places s a b = nat_lt (place_by segs places s a) (place_by segs places s b)

-- by the places of lines, a and b stand next to each other
abbrev pub beside_by : List (List LineId) → List (List ℕ) → SegId → LineId → LineId → Bool
beside_by segs places s a b = are_adjacent (place_by segs places s a) (place_by segs places s b)

-- by the places of lines, the term costs something
abbrev pub is_met_by : List (List LineId) → List (List ℕ) → Term → Bool
is_met_by segs places (Side seg first second w) = before_by segs places seg second first
is_met_by segs places (Link seg other flip a b w) = same_answer flip (same_answer (before_by segs places seg a b) (before_by segs places other a b))
is_met_by segs places (Apart seg other a b w) = not (same_answer (beside_by segs places seg a b) (beside_by segs places other a b))

-- what a term costs by the places of lines
abbrev pub cost_by : List (List LineId) → List (List ℕ) → Term → ℕ
cost_by segs places t = if is_met_by segs places t then weight_of t else 0
