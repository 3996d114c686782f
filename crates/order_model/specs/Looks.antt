-- What a prefix knows: placed lines stand, left to right, before all lines that are not placed.
use Rattle.std.specs.Prelude.{ℕ, ◌+◌, ◌==◌, nat_lt, Bool, true, false, ◌||◌, List, length, Option, Some, None, if◌then◌else◌}
use Rattle.map_base.specs.declared.ids.SegId.{SegId}
use Rattle.map_base.specs.declared.ids.LineId.{LineId}
use Rattle.order_model.specs.Problems.{lines_on}
use Rattle.order_model.specs.Places.{place_of, no_place, are_adjacent}
use Rattle.order_model.specs.Costs.{comes_before, are_neighbours}
use Rattle.order_model.specs.Prefixes.{is_placed}

-- a pair of lines is decided on a segment where at least one of the two is placed: which of them stands first there is
-- then what `comes_before` says of the placed lines
abbrev pub is_decided : List (List LineId) → SegId → LineId → LineId → Bool
is_decided placed s a b = is_placed (lines_on placed s) a || is_placed (lines_on placed s) b

-- whether the first of two lines stands first, where that is decided
abbrev pub first_of : List LineId → LineId → LineId → Option Bool
first_of placed a b = if is_placed placed a || is_placed placed b then Some (comes_before placed a b) else None

-- whether the first of two lines stands first on a segment, where that is decided
abbrev pub stands_first : List (List LineId) → SegId → LineId → LineId → Option Bool
stands_first placed s a b = first_of (lines_on placed s) a b

-- the line is the last of those that are placed
abbrev pub is_last : List LineId → LineId → Bool
is_last placed a = place_of placed a + 1 == length placed

-- a placed line and one that is not placed are no neighbours, unless the placed one is the last
abbrev pub beside_unplaced : List LineId → LineId → Option Bool
beside_unplaced placed a = if is_last placed a then None else Some false

-- whether two lines of a segment are neighbours, where that is settled: both are placed; or exactly one is, and it is
-- not the last placed; or neither is, and just these two lines are left
abbrev pub neighbours_on : List LineId → List LineId → LineId → LineId → Option Bool
neighbours_on lines placed a b =
    if is_placed placed a then (if is_placed placed b then Some (are_neighbours placed a b) else beside_unplaced placed a)
    else if is_placed placed b then beside_unplaced placed b
    else if length placed + 2 == length lines then Some true
    else None

-- Which of two lines stands first, and whether they are neighbours, by the places of the two and by how many of how
-- many lines are placed.

abbrev pub first_at : ℕ → ℕ → Option Bool
first_at i j = if i == no_place then (if j == no_place then None else Some (nat_lt i j)) else Some (nat_lt i j)

abbrev pub beside_unplaced_at : ℕ → ℕ → Option Bool
beside_unplaced_at i placed = if i + 1 == placed then None else Some false

abbrev pub neighbours_at : ℕ → ℕ → ℕ → ℕ → Option Bool
neighbours_at i j placed lines =
    if i == no_place then (if j == no_place then (if placed + 2 == lines then Some true else None) else beside_unplaced_at j placed)
    else if j == no_place then beside_unplaced_at i placed
    else Some (are_adjacent i j)
