-- Small parts, with their live trees and best orders worked out by hand.
use Rattle.std.specs.Prelude.{◌≡◌, ℕ, List, [], ◌∷◌, refl, true, false}
use Rattle.std.specs.Prelude.{pos}
use Rattle.map_base.specs.declared.ids.SegId.{SegId}
use Rattle.map_base.specs.declared.ids.LineId.{LineId}
use Rattle.order_model.specs.declared.term.Term.{Term}
use Rattle.order_model.specs.declared.term.Term.TheVariants.{Side, Link, Apart}
use Rattle.order_model.specs.declared.problem.ProblemParts.{ProblemParts}
use Rattle.order_model.specs.PartTerms.{numbered_from, part_numbers}
use Rattle.order_proof.specs.Plain.{PlainTree, split, close, no_case, case_of}
use Rattle.order_proof.specs.Trees.{splits_of}
use Rattle.order_search.specs.LiveTrees.{BoundedPart, live_tree}
use Rattle.order_search.specs.Bounded.{bounded_part}
use Rattle.order_search.specs.Finding.{incomplete_in}
use Rattle.order_search.specs.FoundParts.{part_in}
use Rattle.order_search.specs.ByItself.{by_itself, own_segments, renumbered, own_tree}

abbrev seg : ℕ → SegId
seg i = record { 0 = i }

abbrev line : ℕ → LineId
line i = record { 0 = i }

abbrev searched : List (List LineId) → List SegId → List Term → BoundedPart
searched segs part terms = bounded_part segs part (numbered_from 0 terms)

abbrev both : List LineId
both = line 0 ∷ line 1 ∷ []

abbrev turned : List LineId
turned = line 1 ∷ line 0 ∷ []

-- Two lines that have to cross between two segments.

abbrev crossing_segs : List (List LineId)
crossing_segs = (line 0 ∷ []) ∷ both ∷ (line 1 ∷ []) ∷ both ∷ (line 1 ∷ []) ∷ (line 0 ∷ []) ∷ []

abbrev crossing : ℕ → ℕ → List Term
crossing side link = Side (seg 1) (line 0) (line 1) side ∷ Link (seg 1) (seg 3) false (line 0) (line 1) link ∷ Side (seg 3) (line 1) (line 0) side ∷ []

abbrev crossing_at : ℕ → ℕ → BoundedPart
crossing_at side link = searched crossing_segs (seg 1 ∷ seg 3 ∷ []) (crossing side link)

abbrev crossing_tree : PlainTree
crossing_tree = split (seg 1) (case_of (line 0) (split (seg 3) (case_of (line 1) (close []) (case_of (line 0) (close []) no_case)))
    (case_of (line 1) (close []) no_case))

crossing_live : live_tree (crossing_at 5 1) ≡ record { tree = crossing_tree; best = record { cost = 1; lists = both ∷ turned ∷ [] } }
crossing_live = refl

-- one line twice as important
weighty_live : live_tree (crossing_at 10 2) ≡ record { tree = crossing_tree; best = record { cost = 2; lists = both ∷ turned ∷ [] } }
weighty_live = refl

crossing_incomplete : incomplete_in crossing_segs (seg 1 ∷ seg 3 ∷ []) ≡ 5
crossing_incomplete = refl

-- Three segments at a station, and two lines with all three connections.

abbrev star : List Term
star = Side (seg 0) (line 0) (line 1) 3 ∷ Side (seg 0) (line 1) (line 0) 3
    ∷ Side (seg 1) (line 0) (line 1) 3 ∷ Side (seg 1) (line 1) (line 0) 3
    ∷ Side (seg 2) (line 0) (line 1) 3 ∷ Side (seg 2) (line 1) (line 0) 3
    ∷ Link (seg 0) (seg 1) true (line 0) (line 1) 12 ∷ Link (seg 0) (seg 2) true (line 0) (line 1) 12 ∷ Link (seg 1) (seg 2) true (line 0) (line 1) 12
    ∷ Apart (seg 0) (seg 1) (line 0) (line 1) 9 ∷ Apart (seg 0) (seg 2) (line 0) (line 1) 9 ∷ Apart (seg 1) (seg 2) (line 0) (line 1) 9 ∷ []

star_live : live_tree (searched (both ∷ both ∷ both ∷ []) (seg 0 ∷ seg 1 ∷ seg 2 ∷ []) star) ≡ record {
  tree = split (seg 0) (case_of (line 0)
      (split (seg 1) (case_of (line 0)
      (split (seg 2) (case_of (line 1) (close []) (case_of (line 0) (close []) no_case)))
      (case_of (line 1) (close []) no_case)))
      (case_of (line 1) (close ((8, pos 12) ∷ [])) no_case));
  best = record { cost = 21; lists = both ∷ both ∷ turned ∷ [] };
}
star_live = refl

-- Three lines share a segment, of which the first and the last go on together.

abbrev three : List LineId
three = line 0 ∷ line 1 ∷ line 2 ∷ []

abbrev ends : List LineId
ends = line 0 ∷ line 2 ∷ []

abbrev parting : List Term
parting = Side (seg 0) (line 0) (line 1) 3 ∷ Link (seg 0) (seg 1) false (line 0) (line 2) 12 ∷ Apart (seg 0) (seg 1) (line 0) (line 2) 9
    ∷ Side (seg 0) (line 2) (line 1) 3 ∷ []

parting_live : live_tree (searched (three ∷ ends ∷ (line 1 ∷ []) ∷ []) (seg 0 ∷ seg 1 ∷ []) parting) ≡ record {
  tree = split (seg 0) (case_of (line 0)
      (split (seg 0) (case_of (line 2)
      (split (seg 1) (case_of (line 0) (close []) (case_of (line 2) (close []) no_case)))
      (case_of (line 1) (close []) no_case)))
      (case_of (line 2) (close []) (case_of (line 1) (close []) no_case)));
  best = record { cost = 0; lists = (line 0 ∷ line 2 ∷ line 1 ∷ []) ∷ ends ∷ [] };
}
parting_live = refl

-- Both orders of a segment cost the same: the number order stays.

tie_live : live_tree (searched ((line 0 ∷ []) ∷ both ∷ (line 1 ∷ []) ∷ (line 1 ∷ []) ∷ (line 0 ∷ []) ∷ []) (seg 1 ∷ [])
    (Side (seg 1) (line 0) (line 1) 3 ∷ Side (seg 1) (line 1) (line 0) 3 ∷ []))
    ≡ record { tree = close []; best = record { cost = 3; lists = both ∷ [] } }
tie_live = refl

-- The line in the middle ends before the others part from it, at this weight of its Sides.

abbrev ending : ℕ → BoundedPart
ending w = searched ((line 0 ∷ []) ∷ three ∷ (line 2 ∷ []) ∷ (line 1 ∷ []) ∷ ends ∷ []) (seg 1 ∷ seg 4 ∷ [])
    (Side (seg 1) (line 0) (line 1) w ∷ Side (seg 1) (line 0) (line 2) 3 ∷ Side (seg 1) (line 1) (line 2) w
    ∷ Link (seg 1) (seg 4) false (line 0) (line 2) 12 ∷ Apart (seg 1) (seg 4) (line 0) (line 2) 9 ∷ [])

ending_best : (live_tree (ending 3)).best ≡ record { cost = 3; lists = (line 0 ∷ line 2 ∷ line 1 ∷ []) ∷ ends ∷ [] }
ending_best = refl

ending_splits : splits_of (live_tree (ending 3)).tree ≡ 3
ending_splits = refl

important_live : live_tree (ending 12) ≡ record {
  tree = split (seg 1) (case_of (line 0)
      (split (seg 1) (case_of (line 1) (close []) (case_of (line 2) (close []) no_case)))
      (case_of (line 1) (close []) (case_of (line 2) (close []) no_case)));
  best = record { cost = 9; lists = three ∷ ends ∷ [] };
}
important_live = refl

-- A part by itself: its segments 2 and 3 are 0 and 1, and its terms 0, 2 and 3 are 0, 1 and 2.

abbrev two_parts : ProblemParts
two_parts = record {
  segs = both ∷ (line 0 ∷ []) ∷ both ∷ both ∷ [];
  terms = Side (seg 2) (line 0) (line 1) 5 ∷ Side (seg 0) (line 0) (line 1) 3 ∷ Link (seg 2) (seg 3) false (line 0) (line 1) 1 ∷ Side (seg 3) (line 1) (line 0) 5 ∷ [];
}

abbrev second : List SegId
second = seg 2 ∷ seg 3 ∷ []

second_itself : by_itself two_parts second ≡ record {
  segs = both ∷ both ∷ [];
  terms = Side (seg 0) (line 0) (line 1) 5 ∷ Link (seg 0) (seg 1) false (line 0) (line 1) 1 ∷ Side (seg 1) (line 1) (line 0) 5 ∷ [];
}
second_itself = refl

second_segments : own_segments second ≡ seg 0 ∷ seg 1 ∷ []
second_segments = refl

second_numbers : part_numbers two_parts.terms second ≡ 0 ∷ 2 ∷ 3 ∷ []
second_numbers = refl

second_live : live_tree (part_in (by_itself two_parts second) (own_segments second)) ≡ record {
  tree = split (seg 0) (case_of (line 0) (split (seg 1) (case_of (line 1) (close []) (case_of (line 0) (close []) no_case))) (case_of (line 1) (close []) no_case));
  best = record { cost = 1; lists = both ∷ turned ∷ [] };
}
second_live = refl

-- numbers of the part by itself become those of the problem, and back
abbrev own_trees : PlainTree
own_trees = split (seg 1) (case_of (line 1) (close ((0, pos 2) ∷ (1, pos 3) ∷ (2, pos 4) ∷ [])) no_case)

abbrev whole_trees : PlainTree
whole_trees = split (seg 3) (case_of (line 1) (close ((0, pos 2) ∷ (2, pos 3) ∷ (3, pos 4) ∷ [])) no_case)

second_there : renumbered second (part_numbers two_parts.terms second) own_trees ≡ whole_trees
second_there = refl

second_back : own_tree second (part_numbers two_parts.terms second) whole_trees ≡ own_trees
second_back = refl
