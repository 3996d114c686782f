-- What is held of a part by itself, or found of it, in its problem.
use Rattle.std.proofs.Common.{◌≡◌, ℕ, ◌+◌, ◌<◌, ◌≤◌, false, true, cond, Bool, List, [], ◌∷◌, ◌++◌, length, sym, ◌∙◌, ap, subst, arith}
use Rattle.std.proofs.Common.{Option, Some, None, Result, Ok, Err}
use Rattle.std.specs.Prelude.{IfErr}
use Rattle.std.specs.Result.{IsErrAnd}
use Rattle.std.specs.List.{All}
use Rattle.map_base.specs.declared.ids.SegId.{SegId}
use Rattle.map_method.specs.declared.search.Search.{Search}
use Rattle.order_model.specs.declared.problem.ProblemParts.{ProblemParts}
use Rattle.order_model.specs.Problems.{IsProblem}
use Rattle.order_model.specs.Parts.{IsRisingPart}
use Rattle.order_model.specs.PartTerms.{part_numbers}
use Rattle.order_proof.specs.Plain.{plain_part_tree}
use Rattle.order_proof.specs.Trees.{IsPartTree}
use Rattle.order_search.specs.declared.found.SearchFault.{SearchFault}
use Rattle.order_search.specs.declared.found.SearchFault.TheVariants as fault
use Rattle.order_search.specs.ByItself.{by_itself}
use Rattle.kept_trees.specs.declared.plan.SearchPlan.{SearchPlan}
use Rattle.kept_trees.specs.declared.found_part.FoundPart.{FoundPart}
use Rattle.kept_trees.specs.Renumbered.{renumbered_tree}
use Rattle.kept_trees.specs.OwnTrees.{HeldPart, IsOwnResult, spent_in, held_own, held_as}
use Rattle.kept_trees.specs.Results.{renumbered_result, result_found, own_outcome, part_outcome, own_branches, branches_met}
use Rattle.kept_trees.specs.Results.{IsResult, IsOwnFound, IsFaultOf}
use Rattle.kept_trees.specs.Keeping.{is_held, with_part, branches_to_meet, IsServed, IsMissing}
use Rattle.kept_trees.proofs.LiveOutcomes.{Outcome}
use Rattle.kept_trees.proofs.OwnOutcomes.{same_fault, same_branches}
use Rattle.kept_trees.proofs.OwnShown.{tree_here, found_here}
use Rattle.kept_trees.proofs.Serving.{missing, own_result}

-- a refusal that comes by definition
pub is_fault : (x : Outcome) (e : SearchFault) → x ≡ Err e → IsFaultOf x e
is_fault x fault.NoMemory h = tt
is_fault x (fault.Spent n) h = h
is_fault x (fault.TooDeep limit) h = h

-- a refusal that is handed on
pub handed_on : (x : Outcome) (r : Result FoundPart SearchFault) (e : SearchFault) → IsErrAnd r (λ y. y ≡ e)
    → IsFaultOf x e → IfErr r (IsFaultOf x)
handed_on x (Ok f) e given h = tt
handed_on x (Err y) e given h = subst (IsFaultOf x) (sym given) h

module _ (p : ProblemParts) (part : List SegId) (ok : IsProblem p) (known : All (λ (s : SegId). s.0 < length p.segs) part) (rising : IsRisingPart part)
    (plan : SearchPlan) (light : plan.budget ≤ 100000) (own : ProblemParts) (own_is : own ≡ by_itself p part) where
  abbrev held_there : HeldPart
  held_there = held_as plan p part

  own_found : (f : FoundPart) → IsOwnFound plan own f → IsOwnFound plan (by_itself p part) f
  own_found f = subst (λ (o : ProblemParts). IsOwnFound plan o f) own_is

  pub refusal_there : (e : SearchFault) → IsFaultOf (own_outcome plan own) e → IsFaultOf (part_outcome plan p part) e
  refusal_there e h = same_fault p part known rising plan e (subst (λ (o : ProblemParts). IsFaultOf (own_outcome plan o) e) own_is h)

  module _ (f : FoundPart) (numbers : List ℕ) (told : numbers ≡ part_numbers p.terms part) where
    pub found_tree : IsOwnFound plan own f → IsPartTree (renumbered_tree part numbers (plain_part_tree f.tree))
    found_tree found = tree_here p part ok known rising plan f numbers told light (own_found f found)

    pub found_result : IsOwnFound plan own f → (there : FoundPart)
        → result_found there ≡ renumbered_result part numbers (result_found f)
        → IsResult plan p part there
    found_result found there same = found_here p part ok known rising plan f numbers told light (own_found f found) there same

  module _ (held : List HeldPart) where
    held_here : is_held held (held_own plan own) ≡ true → is_held held held_there ≡ true
    held_here = subst (λ (o : ProblemParts). is_held held (held_own plan o) ≡ true) own_is

    -- what is held stays as it is, and takes no step
    pub served_held : (f : FoundPart) → IsServed held plan own f → held ≡ with_part held held_there
    served_held f served = sym (ap (λ (b : Bool). cond b held (held ++ held_there ∷ [])) (held_here served.1))

    pub served_steps : (f : FoundPart) → IsServed held plan own f → (steps : ℕ)
        → steps ≡ steps + branches_to_meet held plan p part
    served_steps f served steps = omega (arith, ap (λ (b : Bool). cond b 0 (branches_met plan p part)) (held_here served.1))

    -- what is held in neither way is searched
    module _ (asked : Search) (how : asked ≡ plan.search) (whole : Option ℕ) (is_whole : whole ≡ None)
        (none : IsMissing held plan (record { how = asked; spent = whole; part = own }))
        (some : IsMissing held plan (record { how = asked; spent = Some plan.budget; part = own })) where
      absent : is_held held held_there ≡ false
      absent =
          let none_there = subst (IsMissing held plan) (λ i. record { how = how i; spent = is_whole i; part = own }) none in
          let some_there = subst (IsMissing held plan) (λ i. record { how = how i; spent = Some plan.budget; part = own }) some in
          subst (λ (o : ProblemParts). is_held held (held_own plan o) ≡ false) own_is (missing held plan own none_there some_there)

      -- the search meets what is to be met
      pub searched_steps : own_branches plan own ≡ branches_to_meet held plan p part
      searched_steps =
          ap (own_branches plan) own_is
          ∙ sym (same_branches p part known rising plan)
          ∙ sym (ap (λ (b : Bool). cond b 0 (branches_met plan p part)) absent)

      module _ (f : FoundPart) (found : IsOwnFound plan own f) (spent : Option ℕ)
          (spent_is : spent ≡ spent_in plan.budget (Ok (result_found f))) where
        abbrev key : HeldPart
        key = record { how = asked; spent = spent; part = own }

        key_there : key ≡ held_there
        key_there =
            (λ i. record { how = how i; spent = spent_is i; part = own })
            ∙ (λ i. record { how = plan.search; spent = spent_in plan.budget (sym found i); part = own })
            ∙ ap (held_own plan) own_is

        pub added_absent : is_held held key ≡ false
        added_absent = ap (is_held held) key_there ∙ absent

        pub added_own : IsOwnResult key f
        added_own =
            subst (λ (h : HeldPart). IsOwnResult h f) (sym (λ i. record { how = how i; spent = spent_is i; part = own }))
            (own_result plan own f found)

        pub added_held : held ++ key ∷ [] ≡ with_part held held_there
        added_held =
            ap (λ (h : HeldPart). held ++ h ∷ []) key_there
            ∙ sym (ap (λ (b : Bool). cond b held (held ++ held_there ∷ [])) absent)
