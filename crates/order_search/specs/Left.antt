-- What a prefix of a part leaves to be placed.
use Rattle.std.specs.Prelude.{◌≡◌, ℕ, ◌-◌, nat_lt, Bool, false, List, length, filter, find, sum_by, All, Option}
use Rattle.map_base.specs.declared.ids.SegId.{SegId}
use Rattle.map_base.specs.declared.ids.LineId.{LineId}
use Rattle.order_model.specs.Problems.{IsOn, lines_on}
use Rattle.order_model.specs.Prefixes.{is_placed, is_unplaced}

-- fewer lines are placed than the segment has
abbrev pub is_open : List (List LineId) → List (List LineId) → SegId → Bool
is_open segs placed s = nat_lt (length (lines_on placed s)) (length (lines_on segs s))

-- the first segment of the part on which a line is left; the prefix is complete where there is none
abbrev pub first_open : List (List LineId) → List SegId → List (List LineId) → Option SegId
first_open segs part placed = find (is_open segs placed) part

-- the lines that are left, in their order
abbrev pub lines_left : List LineId → List LineId → List LineId
lines_left lines placed = filter (is_unplaced placed) lines

-- how many lines are left on a segment
abbrev pub left_on : List (List LineId) → List (List LineId) → SegId → ℕ
left_on segs placed s = length (lines_on segs s) - length (lines_on placed s)

-- how many lines are left on the part
abbrev pub room_of : List (List LineId) → List SegId → List (List LineId) → ℕ
room_of segs part placed = sum_by (left_on segs placed) part

-- each of these lines stands on the segment and is not placed there
abbrev pub AreNext : List (List LineId) → List (List LineId) → SegId → List LineId → Type 0
AreNext segs placed s lines = All (λ (a : LineId). IsOn segs s a × (is_placed (lines_on placed s) a ≡ false)) lines
