-- What comes of a part by itself comes of it in its problem, with the numbers of the problem in the tree.
use Rattle.std.proofs.Common.{◌≡◌, ℕ, ◌+◌, ◌<◌, nat_le, Bool, true, false, cond, ◌&&◌, List, length, refl, sym, ◌∙◌, ap, Ok, Err}
use Rattle.std.specs.List.{All}
use Rattle.map_base.specs.declared.ids.SegId.{SegId}
use Rattle.map_method.specs.declared.search.Search.{Search}
use Rattle.map_method.specs.declared.search.Search.TheVariants.{Live, Dual}
use Rattle.map_method.specs.declared.claim.Claim.{Claim}
use Rattle.map_method.specs.declared.claim.Claim.TheVariants.{Best, Bound}
use Rattle.order_model.specs.declared.problem.ProblemParts.{ProblemParts}
use Rattle.order_model.specs.Parts.{IsRisingPart}
use Rattle.order_model.specs.PartTerms.{part_numbers}
use Rattle.order_proof.specs.Plain.{by_cases}
use Rattle.order_search.specs.declared.found.SearchFault.{SearchFault}
use Rattle.order_search.specs.declared.found.SearchFault.TheVariants as fault
use Rattle.order_search.specs.LiveTrees.{GrownTree, live_tree}
use Rattle.order_search.specs.Finding.{places_of}
use Rattle.order_search.specs.FoundParts.{part_in}
use Rattle.order_search.specs.ByItself.{by_itself, own_segments, renumbered, seg_from, number_from}
use Rattle.order_search.proofs.OwnParts.{from_own, splits_by}
use Rattle.dual_bound.specs.Accepting.{is_narrow, load_of, most_load}
use Rattle.dual_ascent.specs.OwnNumbers.{all_segments}
use Rattle.kept_trees.specs.declared.plan.SearchPlan.{SearchPlan}
use Rattle.kept_trees.specs.Results.{PartResult, by_live, is_dual, live_found, live_outcome, renumbered_result, dual_own, dual_part}
use Rattle.kept_trees.specs.Results.{dual_outcome, part_outcome, own_outcome, branches_met, own_branches, IsFaultOf}
use Rattle.kept_trees.proofs.LiveOutcomes.{Outcome, too_deep}
use Rattle.kept_trees.proofs.OwnNumbers.{all_are_own, places_by_itself, narrow_by_itself, load_by_itself}

-- an outcome with the numbers of the problem
abbrev pub in_problem : List SegId → List ℕ → Outcome → Outcome
in_problem part numbers (Ok r) = Ok (renumbered_result part numbers r)
in_problem part numbers (Err e) = Err e

-- a result that there is, or a fault
moved_choice : (part : List SegId) (numbers : List ℕ) (b : Bool) (r : PartResult) (e : SearchFault)
    → cond b (Ok (renumbered_result part numbers r)) (Err e) ≡ in_problem part numbers (cond b (Ok r) (Err e))
moved_choice part numbers true r e = refl
moved_choice part numbers false r e = refl

moved_dual : (part : List SegId) (numbers : List ℕ) (claim : Claim) (budget : ℕ) (r : PartResult)
    → dual_outcome claim budget (renumbered_result part numbers r) ≡ in_problem part numbers (dual_outcome claim budget r)
moved_dual part numbers Best budget r = moved_choice part numbers r.complete r (fault.Spent (budget + 1))
moved_dual part numbers Bound budget r = by r.complete
  where
    by : (b : Bool) → ◌≡◌ {A = Outcome}
        (Ok (cond b (renumbered_result part numbers r) (record (renumbered_result part numbers r) { branches = budget })))
        (Ok (renumbered_result part numbers (cond b r (record r { branches = budget }))))
    by true = refl
    by false = refl

moved_live : (part : List SegId) (numbers : List ℕ) (budget : ℕ) (b : Bool) (r : PartResult)
    → cond b (live_found budget (renumbered_result part numbers r)) too_deep
    ≡ in_problem part numbers (cond b (live_found budget r) too_deep)
moved_live part numbers budget true r = moved_choice part numbers (nat_le r.branches budget) r (fault.Spent (budget + 1))
moved_live part numbers budget false r = refl

moved_either : (part : List SegId) (numbers : List ℕ) (b : Bool) (x y one other : Outcome)
    → one ≡ in_problem part numbers x → other ≡ in_problem part numbers y
    → cond b one other ≡ in_problem part numbers (cond b x y)
moved_either part numbers true x y one other left right = left
moved_either part numbers false x y one other left right = right

moved_fault : (part : List SegId) (numbers : List ℕ) (x y : Outcome) (e : SearchFault) → y ≡ in_problem part numbers x
    → IsFaultOf x e → IsFaultOf y e
moved_fault part numbers x y fault.NoMemory same h = tt
moved_fault part numbers x y (fault.Spent n) same h = same ∙ ap (in_problem part numbers) h
moved_fault part numbers x y (fault.TooDeep limit) same h = same ∙ ap (in_problem part numbers) h

module _ (p : ProblemParts) (part : List SegId) (known : All (λ (s : SegId). s.0 < length p.segs) part) (rising : IsRisingPart part) where
  abbrev own : ProblemParts
  own = by_itself p part

  abbrev numbers_there : List ℕ
  numbers_there = part_numbers p.terms part

  same_places : places_of own.segs (all_segments own) ≡ places_of p.segs part
  same_places = ap (places_of own.segs) (all_are_own p part) ∙ places_by_itself p part

  -- the part is searched by dual prices where the part by itself is
  pub same_search : (search : Search) → is_dual search p part ≡ is_dual search own (all_segments own)
  same_search Live = refl
  same_search Dual =
      sym (ap (λ (ss : List SegId). is_narrow own.segs ss && nat_le (load_of own.segs ss) most_load) (all_are_own p part)
      ∙ ap (λ (b : Bool). b && nat_le (load_of own.segs (own_segments part)) most_load) (narrow_by_itself p part)
      ∙ ap (λ (n : ℕ). is_narrow p.segs part && nat_le n most_load) (load_by_itself p part))

  live_there : by_live (live_tree (part_in p part)) ≡ renumbered_result part numbers_there (by_live (live_tree (part_in own (all_segments own))))
  live_there =
      let grown : GrownTree = live_tree (part_in own (own_segments part)) in
      let made : ℕ → PartResult = λ n. record {
        complete = true;
        target = grown.best.cost;
        tree = by_cases (renumbered part numbers_there grown.tree);
        lists = grown.best.lists;
        branches = n;
      } in
      ap by_live (from_own p part known rising)
      ∙ ap made (splits_by (seg_from part) (number_from numbers_there) grown.tree)
      ∙ ap (λ (ss : List SegId). renumbered_result part numbers_there (by_live (live_tree (part_in own ss)))) (sym (all_are_own p part))

  live_outcome_there : (budget : ℕ)
      → live_outcome budget p part ≡ in_problem part numbers_there (live_outcome budget own (all_segments own))
  live_outcome_there budget =
      ap (λ (n : ℕ). cond (nat_le n 2048) (live_found budget (by_live (live_tree (part_in p part)))) too_deep) (sym same_places)
      ∙ ap (λ (r : PartResult). cond (nat_le (places_of own.segs (all_segments own)) 2048) (live_found budget r) too_deep) live_there
      ∙ moved_live part numbers_there budget (nat_le (places_of own.segs (all_segments own)) 2048)
      (by_live (live_tree (part_in own (all_segments own))))

  pub same_outcome : (plan : SearchPlan)
      → part_outcome plan p part ≡ in_problem part numbers_there (own_outcome plan own)
  same_outcome plan =
      ap (λ (b : Bool). cond b (dual_outcome plan.claim plan.budget (dual_part plan.budget p part)) (live_outcome plan.budget p part))
      (same_search plan.search)
      ∙ moved_either part numbers_there (is_dual plan.search own (all_segments own))
      (dual_outcome plan.claim plan.budget (dual_own plan.budget own)) (live_outcome plan.budget own (all_segments own))
      (dual_outcome plan.claim plan.budget (dual_part plan.budget p part)) (live_outcome plan.budget p part)
      (moved_dual part numbers_there plan.claim plan.budget (dual_own plan.budget own)) (live_outcome_there plan.budget)

  pub same_branches : (plan : SearchPlan) → branches_met plan p part ≡ own_branches plan own
  same_branches plan =
      ap (λ (b : Bool). cond b (dual_own plan.budget own).branches (by_live (live_tree (part_in p part))).branches) (same_search plan.search)
      ∙ ap (λ (r : PartResult). cond (is_dual plan.search own (all_segments own)) (dual_own plan.budget own).branches r.branches) live_there

  pub same_fault : (plan : SearchPlan) (e : SearchFault) → IsFaultOf (own_outcome plan own) e
      → IsFaultOf (part_outcome plan p part) e
  same_fault plan e = moved_fault part numbers_there (own_outcome plan own) (part_outcome plan p part) e (same_outcome plan)
