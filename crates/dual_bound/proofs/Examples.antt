-- Small parts, with their values and their trees worked out by hand.
use Rattle.std.specs.Prelude.{◌≡◌, ℕ, Bool, true, false, List, [], ◌∷◌, refl, Option, Some, None}
use Rattle.std.specs.Prelude.{ℤ, pos, negsuc}
use Rattle.map_base.specs.declared.ids.SegId.{SegId}
use Rattle.map_base.specs.declared.ids.LineId.{LineId}
use Rattle.order_model.specs.declared.term.Term.{Term}
use Rattle.order_model.specs.declared.term.Term.TheVariants.{Side, Link, Apart}
use Rattle.order_model.specs.Questions.{Question, question}
use Rattle.order_values.specs.PriceLists.{price_at}
use Rattle.order_values.specs.DualTrees.{PlainDual, fork, stop}
use Rattle.dual_bound.specs.Settled.{with_pair}
use Rattle.dual_bound.specs.Shares.{share_of}
use Rattle.dual_bound.specs.Values.{value_of, are_allowed}
use Rattle.dual_bound.specs.Accepting.{accepts, failing, load_of}

abbrev seg : ℕ → SegId
seg i = record { 0 = i }

abbrev line : ℕ → LineId
line i = record { 0 = i }

abbrev up : List LineId
up = line 0 ∷ line 1 ∷ []

abbrev down : List LineId
down = line 1 ∷ line 0 ∷ []

-- Two segments with two lines each. On the first 1 before 0 costs 3, on the second 0 before 1 costs 5, and to change over
-- between them costs 2: that is the least cost.
abbrev segs : List (List LineId)
segs = up ∷ up ∷ []

abbrev part : List SegId
part = seg 0 ∷ seg 1 ∷ []

abbrev terms : List (ℕ × Term)
terms = (4, Side (seg 0) (line 0) (line 1) 3) ∷ (6, Side (seg 1) (line 1) (line 0) 5) ∷ (9, Link (seg 0) (seg 1) false (line 0) (line 1) 2) ∷ []

abbrev asks : ℕ → Question
asks target = question segs part terms target

-- with no prices each segment takes its cheapest order
free_value : value_of segs terms (price_at []) [] part ≡ Some (pos 0)
free_value = refl

-- with 2000 on the Link its other end pays where the greater line stands first, and its first end is paid
first_share : share_of terms (price_at ((9, pos 2000) ∷ [])) (seg 0) down ≡ pos 1000
first_share = refl

other_share : share_of terms (price_at ((9, pos 2000) ∷ [])) (seg 1) down ≡ pos 2000
other_share = refl

whole_value : value_of segs terms (price_at ((9, pos 2000) ∷ [])) [] part ≡ Some (pos 2000)
whole_value = refl

-- that shows 2, and 3 not
two_shown : failing (asks 2) (stop ((9, pos 2000) ∷ [])) ≡ None
two_shown = refl

three_not : failing (asks 3) (stop ((9, pos 2000) ∷ [])) ≡ Some []
three_not = refl

-- a price is at most 1000 times the weight either way, and on no Side
price_too_great : are_allowed terms ((9, pos 2001) ∷ []) ≡ false
price_too_great = refl

price_below_zero : are_allowed terms ((9, negsuc 1999) ∷ []) ≡ true
price_below_zero = refl

price_on_side : are_allowed terms ((4, pos 1) ∷ []) ≡ false
price_on_side = refl

-- a fork on the second segment: 0 before 1 costs 5 there; else a thousandth less than 2 isn't enough, a unit more is
forked : failing (asks 2) (fork (seg 1) (line 0) (line 1) (stop []) (stop ((9, pos 1001) ∷ []))) ≡ None
forked = refl

second_fails : failing (asks 2) (fork (seg 1) (line 0) (line 1) (stop []) (stop ((9, pos 1000) ∷ []))) ≡ Some (line 1 ∷ [])
second_fails = refl

first_fails : failing (asks 6) (fork (seg 1) (line 0) (line 1) (stop []) (stop [])) ≡ Some (line 0 ∷ [])
first_fails = refl

-- the same pair both ways leaves no order, which shows any target
both_ways : failing (asks 6) (fork (seg 1) (line 0) (line 1) (fork (seg 1) (line 1) (line 0) (stop []) (stop [])) (stop [])) ≡ Some (line 0 ∷ line 0 ∷ [])
both_ways = refl

no_order_left : accepts (asks 1000000) (with_pair (seg 0) (line 0) (line 1) (with_pair (seg 0) (line 1) (line 0) [])) (stop []) ≡ true
no_order_left = refl

-- a fork at one line, or on a segment that is not of the part, fails itself
one_line : failing (asks 0) (fork (seg 0) (line 1) (line 1) (stop []) (stop [])) ≡ Some []
one_line = refl

other_segment : failing (asks 0) (fork (seg 2) (line 0) (line 1) (stop []) (stop [])) ≡ Some []
other_segment = refl

-- A Link with a flip costs where the two lines stand in one order on both segments.
abbrev flipped : List (ℕ × Term)
flipped = (0, Link (seg 0) (seg 1) true (line 0) (line 1) 2) ∷ []

flipped_shares : share_of flipped (price_at ((0, pos 7) ∷ [])) (seg 1) up ≡ pos 7
flipped_shares = refl

flipped_other : share_of flipped (price_at ((0, pos 7) ∷ [])) (seg 1) down ≡ pos 0
flipped_other = refl

-- An Apart is paid for where its lines are neighbours.
abbrev apart : List (ℕ × Term)
apart = (0, Apart (seg 0) (seg 1) (line 0) (line 2) 2) ∷ []

beside_share : share_of apart (price_at ((0, pos 7) ∷ [])) (seg 0) (line 2 ∷ line 0 ∷ line 1 ∷ []) ≡ negsuc 6
beside_share = refl

between_share : share_of apart (price_at ((0, pos 7) ∷ [])) (seg 1) (line 2 ∷ line 1 ∷ line 0 ∷ []) ≡ pos 0
between_share = refl

-- two segments of two lines take 32 steps, less than a millionth of which is one
small_load : load_of segs part ≡ 1
small_load = refl
