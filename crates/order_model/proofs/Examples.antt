-- Small problems, with what prefixes know of them worked out by hand.
use Rattle.std.specs.Prelude.{◌≡◌, ℕ, List, [], ◌∷◌, refl, true, false, Some, None}
use Rattle.map_base.specs.declared.ids.SegId.{SegId}
use Rattle.map_base.specs.declared.ids.LineId.{LineId}
use Rattle.order_model.specs.declared.term.Term.{Term}
use Rattle.order_model.specs.declared.term.Term.TheVariants.{Side, Link, Apart}
use Rattle.order_model.specs.Costs.{cost_of}
use Rattle.order_model.specs.Gathering.{problem_parts}
use Rattle.order_model.specs.Prefixes.{none_placed, with_line, without_last}
use Rattle.order_model.specs.PartTerms.{part_terms, part_numbers}
use Rattle.order_model.specs.Looks.{is_decided, neighbours_on}

abbrev seg : ℕ → SegId
seg i = record { 0 = i }

abbrev line : ℕ → LineId
line i = record { 0 = i }

abbrev four : List LineId
four = line 0 ∷ line 1 ∷ line 2 ∷ line 3 ∷ []

-- Placing: the last line but one takes the last with it, and both are taken back.

placed_third : with_line four (line 2 ∷ line 0 ∷ []) (line 3) ≡ line 2 ∷ line 0 ∷ line 3 ∷ line 1 ∷ []
placed_third = refl

taken_back : without_last four (line 2 ∷ line 0 ∷ line 3 ∷ line 1 ∷ []) ≡ line 2 ∷ line 0 ∷ []
taken_back = refl

taken_one : without_last four (line 2 ∷ line 0 ∷ []) ≡ line 2 ∷ []
taken_one = refl

-- the line of a segment that has one alone is placed from the start
lone_placed : none_placed ((line 7 ∷ []) ∷ four ∷ [] ∷ []) ≡ (line 7 ∷ []) ∷ [] ∷ [] ∷ []
lone_placed = refl

-- Whether two lines are neighbours.

-- both are placed
both_beside : neighbours_on four (line 2 ∷ line 0 ∷ []) (line 0) (line 2) ≡ Some true
both_beside = refl

-- one is, and is the last, or is not
last_open : neighbours_on four (line 2 ∷ line 0 ∷ []) (line 0) (line 1) ≡ None
last_open = refl

first_closed : neighbours_on four (line 2 ∷ line 0 ∷ []) (line 1) (line 2) ≡ Some false
first_closed = refl

-- neither is, and just these two are left, or more
two_left : neighbours_on four (line 2 ∷ line 0 ∷ []) (line 1) (line 3) ≡ Some true
two_left = refl

three_left : neighbours_on four (line 2 ∷ []) (line 1) (line 3) ≡ None
three_left = refl

-- of a segment with two lines it is settled from the start
two_alone : neighbours_on (line 4 ∷ line 6 ∷ []) [] (line 4) (line 6) ≡ Some true
two_alone = refl

half_decided : is_decided ((line 2 ∷ []) ∷ []) (seg 0) (line 1) (line 2) ≡ true
half_decided = refl

not_decided : is_decided ((line 2 ∷ []) ∷ []) (seg 0) (line 1) (line 3) ≡ false
not_decided = refl

-- Parts: a Side joins nothing, and a segment with one line is of none.

abbrev pair : List LineId
pair = line 0 ∷ line 1 ∷ []

abbrev segs : List (List LineId)
segs = pair ∷ (line 1 ∷ []) ∷ pair ∷ pair ∷ pair ∷ []

abbrev terms : List Term
terms = Side (seg 2) (line 0) (line 1) 3 ∷ Link (seg 2) (seg 4) true (line 0) (line 1) 4 ∷ Side (seg 0) (line 1) (line 0) 5
    ∷ Apart (seg 0) (seg 3) (line 0) (line 1) 2 ∷ Side (seg 4) (line 0) (line 1) 3 ∷ []

two_parts : problem_parts segs terms ≡ (seg 0 ∷ seg 3 ∷ []) ∷ (seg 2 ∷ seg 4 ∷ []) ∷ []
two_parts = refl

second_terms : part_terms terms (seg 2 ∷ seg 4 ∷ [])
    ≡ (0, Side (seg 2) (line 0) (line 1) 3) ∷ (1, Link (seg 2) (seg 4) true (line 0) (line 1) 4) ∷ (4, Side (seg 4) (line 0) (line 1) 3) ∷ []
second_terms = refl

first_numbers : part_numbers terms (seg 0 ∷ seg 3 ∷ []) ≡ 2 ∷ 3 ∷ []
first_numbers = refl

-- A problem in which two bundles can't be divided, with the orders that cost least.

abbrev bundles : List Term
bundles =
    Side (seg 0) (line 0) (line 2) 5 ∷ Side (seg 0) (line 0) (line 3) 5 ∷ Side (seg 0) (line 1) (line 2) 5 ∷ Side (seg 0) (line 1) (line 3) 5
    ∷ Side (seg 1) (line 0) (line 4) 100 ∷ Side (seg 1) (line 4) (line 1) 100 ∷ Side (seg 2) (line 2) (line 4) 100 ∷ Side (seg 2) (line 4) (line 3) 100
    ∷ Link (seg 0) (seg 1) false (line 0) (line 1) 100 ∷ Apart (seg 0) (seg 1) (line 0) (line 1) 4
    ∷ Link (seg 0) (seg 2) false (line 2) (line 3) 100 ∷ Apart (seg 0) (seg 2) (line 2) (line 3) 4 ∷ []

bundles_mixed : cost_of bundles ((line 0 ∷ line 2 ∷ line 1 ∷ line 3 ∷ []) ∷ (line 0 ∷ line 4 ∷ line 1 ∷ []) ∷ (line 2 ∷ line 4 ∷ line 3 ∷ []) ∷ []) ≡ 5
bundles_mixed = refl

bundles_divided : cost_of bundles ((line 0 ∷ line 1 ∷ line 2 ∷ line 3 ∷ []) ∷ (line 0 ∷ line 4 ∷ line 1 ∷ []) ∷ (line 2 ∷ line 4 ∷ line 3 ∷ []) ∷ []) ≡ 8
bundles_divided = refl
