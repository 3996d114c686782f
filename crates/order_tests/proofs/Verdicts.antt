-- Small cases of what is refused first of a proof: two lines that need not cross, by a merge and a division, and two that
-- have to cross.
use Rattle.std.proofs.Common.{◌≡◌, ℕ, pos, negsuc, false, List, [], ◌∷◌, map, replicate, Option, Some, None, refl}
use Rattle.map_base.specs.declared.ids.SegId.{SegId}
use Rattle.map_base.specs.declared.ids.LineId.{LineId}
use Rattle.order_values.specs.declared.rule.Rule.{Rule}
use Rattle.order_values.specs.declared.rule.Rule.TheVariants.{Merge, Divide}
use Rattle.order_model.specs.declared.term.Term.TheVariants.{Side, Link, Apart}
use Rattle.order_values.specs.DualTrees.{stop}
use Rattle.order_model.specs.declared.problem.ProblemParts.{ProblemParts}
use Rattle.order_proof.specs.Plain.{PlainPart, PlainPartTree, PlainProof, PlainTree, by_cases, by_pairs, case_of, close, no_case, split}
use Rattle.order_check.specs.declared.refusal.ProofItem.{ProofItem}
use Rattle.order_check.specs.declared.refusal.ProofItem.TheVariants as item
use Rattle.order_check.specs.Verdict.{bound_refusal, targets, verdict}

abbrev line : ℕ → LineId
line i = record { 0 = i }

abbrev seg : ℕ → SegId
seg i = record { 0 = i }

abbrev both : List LineId
both = line 0 ∷ line 1 ∷ []

-- six segments, of which the second and the fourth have both lines
abbrev lines_with : List LineId → List (List LineId)
lines_with fourth = (line 0 ∷ []) ∷ both ∷ (line 1 ∷ []) ∷ fourth ∷ (line 1 ∷ []) ∷ (line 0 ∷ []) ∷ []

abbrev segs : List (List LineId)
segs = lines_with both

abbrev agreeing : ProblemParts
agreeing = record {
  segs = segs;
  terms = Side (seg 1) (line 0) (line 1) 3 ∷ Link (seg 1) (seg 3) false (line 0) (line 1) 12 ∷ Apart (seg 1) (seg 3) (line 0) (line 1) 9
      ∷ Side (seg 3) (line 0) (line 1) 3 ∷ [];
}

abbrev merge : Rule
merge = Merge (seg 1) (seg 3) false

abbrev divide : Rule
divide = Divide (seg 1) (line 0 ∷ [])

abbrev proof : List Rule → List PlainPart → PlainProof
proof rules parts = record { rules = rules; parts = parts }

-- the two rules leave nothing to order, and the orders cost nothing
by_rules : verdict agreeing (lines_with both) (proof (merge ∷ divide ∷ []) []) ≡ None
by_rules = refl

-- after the merge the other segment has no lines, so the same rule no longer applies
merged_again : verdict agreeing (lines_with both) (proof (merge ∷ merge ∷ []) []) ≡ Some (item.Rule 1)
merged_again = refl

-- a merge of a segment with itself, and rules of segments and lines that there are not
merged_with_itself : verdict agreeing (lines_with both) (proof (Merge (seg 1) (seg 1) false ∷ []) []) ≡ Some (item.Rule 0)
merged_with_itself = refl

unknown_segment : verdict agreeing (lines_with both) (proof (merge ∷ Divide (seg 9) (line 0 ∷ []) ∷ []) []) ≡ Some (item.Rule 1)
unknown_segment = refl

unknown_line : verdict agreeing (lines_with both) (proof (merge ∷ Divide (seg 1) (line 7 ∷ []) ∷ []) []) ≡ Some (item.Rule 1)
unknown_line = refl

no_group : verdict agreeing (lines_with both) (proof (merge ∷ Divide (seg 1) [] ∷ []) []) ≡ Some (item.Rule 1)
no_group = refl

-- without the rules there is a part
missing_part : verdict agreeing (lines_with both) (proof [] []) ≡ Some (item.Part 0 [])
missing_part = refl

-- after the rules there is none
left_over : verdict agreeing (lines_with both) (proof (merge ∷ divide ∷ []) (record { segs = seg 1 ∷ seg 3 ∷ []; target = 0; tree = by_cases (close []) } ∷ [])) ≡ Some (item.Part 0 [])
left_over = refl

-- orders that turn the lines on the fourth segment cost 15 on the problem itself, whatever the rules leave
dear_orders : verdict agreeing (lines_with (line 1 ∷ line 0 ∷ [])) (proof (merge ∷ divide ∷ []) []) ≡ Some item.Total
dear_orders = refl

-- Lines that have to cross: between the two segments at a cost of 1, at an end at one of 5.
abbrev crossing : ProblemParts
crossing = record {
  segs = segs;
  terms = Side (seg 1) (line 0) (line 1) 5 ∷ Link (seg 1) (seg 3) false (line 0) (line 1) 1
      ∷ Side (seg 3) (line 1) (line 0) 5 ∷ [];
}

-- what is refused of a proof by rules and parts of the orders that cross between the two
abbrev refused_of : List Rule → List PlainPart → Option ProofItem
refused_of rules parts = verdict crossing (lines_with (line 1 ∷ line 0 ∷ [])) (proof rules parts)

abbrev part : ℕ → PlainPartTree → PlainPart
part target tree = record { segs = seg 1 ∷ seg 3 ∷ []; target = target; tree = tree }

-- the same of one part by a tree of cases, at the least cost
abbrev refused : PlainTree → Option ProofItem
refused tree = refused_of [] (part 1 (by_cases tree) ∷ [])

-- a segment's cases by one line, and by both
abbrev only : ℕ → ℕ → PlainTree → PlainTree
only s a tree = split (seg s) (case_of (line a) tree no_case)

abbrev either : ℕ → PlainTree → PlainTree → PlainTree
either s first second = split (seg s) (case_of (line 0) first (case_of (line 1) second no_case))

-- all orders without prices, a price of 1 on the Link, and the Link half decided
accepted_trees : map refused (either 1 (either 3 (close []) (close [])) (either 3 (close []) (close []))
    ∷ close ((1, pos 1) ∷ []) ∷ either 1 (close []) (close []) ∷ [])
    ≡ replicate 3 None
accepted_trees = refl

-- the target without the price; a price above the weight, on a Side, and on no term; the wrong way
dear_prices : map (λ prices. refused (close prices)) ([] ∷ ((1, pos 2) ∷ []) ∷ ((0, pos 1) ∷ []) ∷ ((3, pos 1) ∷ [])
    ∷ ((1, negsuc 0) ∷ []) ∷ [])
    ≡ replicate 5 (Some (item.Part 0 []))
dear_prices = refl

-- a price on a term of the greatest number; splits on a segment of another part, on one that is not there, and by lines that
-- are not all that are left
foreign_nodes : map refused (close ((4294967295, pos 1) ∷ []) ∷ only 0 0 (close []) ∷ only 4294967295 0 (close [])
    ∷ only 1 0 (close []) ∷ [])
    ≡ replicate 4 (Some (item.Part 0 []))
foreign_nodes = refl

-- below line 0: a split on a segment that is full, and a price on the Link where it is decided on one segment
below_a_line : map refused (either 1 (only 1 1 (close [])) (close []) ∷ either 1 (close ((1, pos 1) ∷ [])) (close [])
    ∷ [])
    ≡ replicate 2 (Some (item.Part 0 (line 0 ∷ [])))
below_a_line = refl

-- a merge that would cost, no part, a part without its second segment, and a target below the cost
no_merge : refused_of (merge ∷ []) [] ≡ Some (item.Rule 0)
no_merge = refl

no_part : refused_of [] [] ≡ Some (item.Part 0 [])
no_part = refl

half_a_part : refused_of [] (record { segs = seg 1 ∷ []; target = 1; tree = by_cases (close []) } ∷ [])
    ≡ Some (item.Part 0 [])
half_a_part = refl

low_target : refused_of [] (part 0 (by_cases (close [])) ∷ []) ≡ Some item.Total
low_target = refl

-- the bound of a proof is the sum of its targets, whatever orders cost
abbrev low : PlainProof
low = proof [] (part 0 (by_cases (close [])) ∷ [])

abbrev least : PlainProof
least = proof [] (part 1 (by_pairs (stop ((1, pos 1000) ∷ []))) ∷ [])

bounds_are_shown : map (bound_refusal crossing) (low ∷ least ∷ []) ≡ replicate 2 None
bounds_are_shown = refl

bounds : map (λ (p : PlainProof). targets p.parts) (low ∷ least ∷ []) ≡ 0 ∷ 1 ∷ []
bounds = refl

least_bound : refused_of [] least.parts ≡ None
least_bound = refl

no_bound : bound_refusal crossing (proof [] (part 1 (by_cases (close ((1, pos 2) ∷ []))) ∷ [])) ≡ Some (item.Part 0 [])
no_bound = refl
