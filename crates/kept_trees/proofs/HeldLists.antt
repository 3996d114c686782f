-- What is held, once a part more is.
use Rattle.std.proofs.Common.{◌≡◌, ◌≤◌, Bool, true, false, cond, List, [], ◌∷◌, ◌++◌, refl, ◌∙◌, ap, arith, Contains}
use Rattle.std.specs.List.{All}
use Rattle.std.proofs.lemmas.List.Elements.{Contains-append_left, Contains-push, All-contains, at_from_Contains}
use Rattle.std.proofs.lemmas.List.Folds.{list_any_at}
use Rattle.std.proofs.lemmas.Map.Views.{Contains-from_any}
use Rattle.map_base.specs.declared.ids.SegId.{SegId}
use Rattle.order_model.specs.declared.problem.ProblemParts.{ProblemParts}
use Rattle.kept_trees.specs.declared.plan.SearchPlan.{SearchPlan}
use Rattle.kept_trees.specs.Results.{branches_met}
use Rattle.kept_trees.specs.OwnTrees.{HeldPart, held_as}
use Rattle.kept_trees.specs.Keeping.{is_same_held, is_held, with_part, branches_to_meet}
use Rattle.kept_trees.proofs.HeldParts.{held_is, held_same}

-- a part that is held is one of the list
pub held_is_in : (held : List HeldPart) (h : HeldPart) → is_held held h ≡ true → Contains held h
held_is_in held h e = Contains-from_any held_is h held e

-- and a part of the list is held
pub in_is_held : (held : List HeldPart) (h : HeldPart) → Contains held h → is_held held h ≡ true
in_is_held held h there =
    let at = at_from_Contains held h there in
    list_any_at (is_same_held h) held at.0 h at.1 (ap (is_same_held h) (at.2 h) ∙ held_same h)

-- a part is held once it was added
pub added_is_in : (held : List HeldPart) (h : HeldPart) → Contains (with_part held h) h
added_is_in held h = by_test (is_held held h) refl
  where
    by_test : (b : Bool) → is_held held h ≡ b → Contains (cond b held (held ++ h ∷ [])) h
    by_test true e = held_is_in held h e
    by_test false e = Contains-push held h

-- what was held stays
pub stays_in : (held : List HeldPart) (h g : HeldPart) → Contains held g → Contains (with_part held h) g
stays_in held h g there = by_test (is_held held h)
  where
    by_test : (b : Bool) → Contains (cond b held (held ++ h ∷ [])) g
    by_test true = there
    by_test false = Contains-append_left held (h ∷ []) g there

-- the more is held, the fewer branch nodes are to be met
pub fewer_to_meet : (old new : List HeldPart) (plan : SearchPlan) (p : ProblemParts) (part : List SegId)
    → All (Contains new) old
    → branches_to_meet new plan p part ≤ branches_to_meet old plan p part
fewer_to_meet old new plan p part kept = by_test (is_held old here) refl
  where
    here : HeldPart
    here = held_as plan p part

    by_test : (b : Bool) → is_held old here ≡ b → branches_to_meet new plan p part ≤ cond b 0 (branches_met plan p part)
    by_test true h =
        let still : is_held new here ≡ true = in_is_held new here (All-contains (Contains new) old here kept (held_is_in old here h)) in
        omega (arith, ap (λ b. cond b 0 (branches_met plan p part)) still)
    by_test false h = at_most (is_held new here)
      where
        at_most : (b : Bool) → cond b 0 (branches_met plan p part) ≤ branches_met plan p part
        at_most true = omega arith
        at_most false = omega arith
