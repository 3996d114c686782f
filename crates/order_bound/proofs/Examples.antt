-- Bounds and prices of prefixes, worked out by hand.
use Rattle.std.specs.Prelude.{◌≡◌, ℕ, List, [], ◌∷◌, refl, true, false, Some, None}
use Rattle.std.specs.Prelude.{pos}
use Rattle.map_base.specs.declared.ids.SegId.{SegId}
use Rattle.map_base.specs.declared.ids.LineId.{LineId}
use Rattle.order_model.specs.declared.term.Term.{Term}
use Rattle.order_model.specs.declared.term.Term.TheVariants.{Side, Link, Apart}
use Rattle.order_model.specs.PartTerms.{numbered_from}
use Rattle.order_bound.specs.Bounds.{bound_of}
use Rattle.order_bound.specs.Values.{value}
use Rattle.order_bound.specs.CanonicalPrices.{prices_for}

abbrev seg : ℕ → SegId
seg i = record { 0 = i }

abbrev line : ℕ → LineId
line i = record { 0 = i }

abbrev both : List LineId
both = line 0 ∷ line 1 ∷ []

abbrev turned : List LineId
turned = line 1 ∷ line 0 ∷ []

-- Two lines that have to cross between two segments, at a cost of 1.

abbrev crossing_segs : List (List LineId)
crossing_segs = (line 0 ∷ []) ∷ both ∷ (line 1 ∷ []) ∷ both ∷ (line 1 ∷ []) ∷ (line 0 ∷ []) ∷ []

abbrev crossing_part : List SegId
crossing_part = seg 1 ∷ seg 3 ∷ []

abbrev crossing : List Term
crossing = Side (seg 1) (line 0) (line 1) 5 ∷ Link (seg 1) (seg 3) false (line 0) (line 1) 1 ∷ Side (seg 3) (line 1) (line 0) 5 ∷ []

abbrev placed_so : List LineId → List LineId → List (List LineId)
placed_so one three = [] ∷ one ∷ [] ∷ three ∷ [] ∷ [] ∷ []

root_bound : bound_of crossing_segs crossing_part (numbered_from 0 crossing) (placed_so [] []) ≡ 1
root_bound = refl

kept_bound : bound_of crossing_segs crossing_part (numbered_from 0 crossing) (placed_so both []) ≡ 1
kept_bound = refl

turned_bound : bound_of crossing_segs crossing_part (numbered_from 0 crossing) (placed_so turned []) ≡ 5
turned_bound = refl

whole_bound : bound_of crossing_segs crossing_part (numbered_from 0 crossing) (placed_so both turned) ≡ 1
whole_bound = refl

root_value : value crossing_segs crossing_part (numbered_from 0 crossing) (placed_so [] []) (prices_for crossing_segs crossing_part (numbered_from 0 crossing) (placed_so [] [])) ≡ Some (pos 1)
root_value = refl

-- Three segments at a station, and two lines with all three connections.

abbrev star_segs : List (List LineId)
star_segs = both ∷ both ∷ both ∷ []

abbrev star_part : List SegId
star_part = seg 0 ∷ seg 1 ∷ seg 2 ∷ []

abbrev star : List Term
star = Side (seg 0) (line 0) (line 1) 3 ∷ Side (seg 0) (line 1) (line 0) 3
    ∷ Side (seg 1) (line 0) (line 1) 3 ∷ Side (seg 1) (line 1) (line 0) 3
    ∷ Side (seg 2) (line 0) (line 1) 3 ∷ Side (seg 2) (line 1) (line 0) 3
    ∷ Link (seg 0) (seg 1) true (line 0) (line 1) 12 ∷ Link (seg 0) (seg 2) true (line 0) (line 1) 12 ∷ Link (seg 1) (seg 2) true (line 0) (line 1) 12
    ∷ Apart (seg 0) (seg 1) (line 0) (line 1) 9 ∷ Apart (seg 0) (seg 2) (line 0) (line 1) 9 ∷ Apart (seg 1) (seg 2) (line 0) (line 1) 9 ∷ []

star_root : bound_of star_segs star_part (numbered_from 0 star) ([] ∷ [] ∷ [] ∷ []) ≡ 9
star_root = refl

star_turned : bound_of star_segs star_part (numbered_from 0 star) (turned ∷ [] ∷ [] ∷ []) ≡ 21
star_turned = refl

star_prices : prices_for star_segs star_part (numbered_from 0 star) (turned ∷ [] ∷ [] ∷ []) ≡ (8, pos 12) ∷ []
star_prices = refl

star_value : value star_segs star_part (numbered_from 0 star) (turned ∷ [] ∷ [] ∷ []) ((8, pos 12) ∷ []) ≡ Some (pos 21)
star_value = refl

too_dear : value star_segs star_part (numbered_from 0 star) (turned ∷ [] ∷ [] ∷ []) ((8, pos 13) ∷ []) ≡ None
too_dear = refl

-- Two of three lines go on together, the third leaves between them in the order of numbers.

abbrev three : List LineId
three = line 0 ∷ line 1 ∷ line 2 ∷ []

abbrev outer : List LineId
outer = line 0 ∷ line 2 ∷ []

abbrev parted_segs : List (List LineId)
parted_segs = three ∷ outer ∷ (line 1 ∷ []) ∷ []

abbrev parted_part : List SegId
parted_part = seg 0 ∷ seg 1 ∷ []

abbrev parted : List Term
parted = Side (seg 0) (line 0) (line 1) 3 ∷ Link (seg 0) (seg 1) false (line 0) (line 2) 12 ∷ Apart (seg 0) (seg 1) (line 0) (line 2) 9
    ∷ Side (seg 0) (line 2) (line 1) 3 ∷ []

abbrev parted_bound : List LineId → List LineId → ℕ
parted_bound zero one = bound_of parted_segs parted_part (numbered_from 0 parted) (zero ∷ one ∷ (line 1 ∷ []) ∷ [])

parted_root : parted_bound [] [] ≡ 0
parted_root = refl

-- whether lines 0 and 2 are neighbours on segment 0 is not settled, and so the Apart is not counted
parted_unsettled : parted_bound (line 0 ∷ []) [] ≡ 0
parted_unsettled = refl

-- both other lines stand on the wrong side of line 1, and the Apart is settled on both segments
parted_wrong : parted_bound (line 1 ∷ []) [] ≡ 6
parted_wrong = refl

parted_number_order : parted_bound three [] ≡ 12
parted_number_order = refl

parted_best : parted_bound (line 0 ∷ line 2 ∷ line 1 ∷ []) outer ≡ 0
parted_best = refl

-- Two Sides that want opposite orders.

abbrev tied : List (ℕ × Term)
tied = numbered_from 0 (Side (seg 0) (line 0) (line 1) 3 ∷ Side (seg 0) (line 1) (line 0) 3 ∷ [])

tied_root : bound_of (both ∷ []) (seg 0 ∷ []) tied ([] ∷ []) ≡ 3
tied_root = refl

tied_prices : prices_for (both ∷ []) (seg 0 ∷ []) tied ([] ∷ []) ≡ []
tied_prices = refl

-- Two Links between the same segments: the second closes a cycle and is not kept, but counts once an end is decided.

abbrev twice : List (ℕ × Term)
twice = numbered_from 0 (Link (seg 0) (seg 1) false (line 0) (line 1) 5 ∷ Link (seg 0) (seg 1) true (line 0) (line 1) 7 ∷ [])

twice_root : bound_of (both ∷ both ∷ []) (seg 0 ∷ seg 1 ∷ []) twice ([] ∷ [] ∷ []) ≡ 0
twice_root = refl

twice_half : bound_of (both ∷ both ∷ []) (seg 0 ∷ seg 1 ∷ []) twice (both ∷ [] ∷ []) ≡ 5
twice_half = refl

-- Prices from the leaves to the root: segments 0, 1, 2 in a row, with Sides that want opposite orders at its ends.

abbrev row : List (ℕ × Term)
row = numbered_from 4 (Side (seg 0) (line 0) (line 1) 5 ∷ Link (seg 0) (seg 1) false (line 0) (line 1) 2
    ∷ Link (seg 1) (seg 2) true (line 0) (line 1) 3 ∷ Side (seg 2) (line 0) (line 1) 5 ∷ [])

abbrev row_segs : List (List LineId)
row_segs = both ∷ both ∷ both ∷ []

row_root : bound_of row_segs (seg 0 ∷ seg 1 ∷ seg 2 ∷ []) row ([] ∷ [] ∷ [] ∷ []) ≡ 2
row_root = refl

row_prices : prices_for row_segs (seg 0 ∷ seg 1 ∷ seg 2 ∷ []) row ([] ∷ [] ∷ [] ∷ []) ≡ (5, pos 2) ∷ (6, pos 3) ∷ []
row_prices = refl

row_value : value row_segs (seg 0 ∷ seg 1 ∷ seg 2 ∷ []) row ([] ∷ [] ∷ [] ∷ []) ((5, pos 2) ∷ (6, pos 3) ∷ []) ≡ Some (pos 2)
row_value = refl
