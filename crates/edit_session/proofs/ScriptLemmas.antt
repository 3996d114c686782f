-- What the draws of a script come to, one draw after another.
use Rattle.std.proofs.Common.{◌≡◌, ◌∙◌, ap, sym, refl, ℕ, ◌+◌, ◌≤◌, Bool, true, false, cond, List, [], ◌∷◌, ◌++◌, append_assoc, sum_by, arith, Contains, Result, Ok, Err}
use Rattle.std.specs.Prelude.{not}
use Rattle.std.specs.List.{All, filter, flat_map}
use Rattle.std.proofs.lemmas.List.{append-nil}
use Rattle.std.proofs.lemmas.List.Elements.{All-contains}
use Rattle.std.proofs.lemmas.List.Sums.{sum_by-cons}
use Rattle.map_base.specs.declared.ids.SegId.{SegId}
use Rattle.map_base.specs.Settings.{Choices}
use Rattle.kept_trees.specs.declared.plan.SearchPlan.{SearchPlan}
use Rattle.map_method.specs.Methods.{MethodChoices}
use Rattle.transit_feed.specs.Feeds.{Feed}
use Rattle.order_model.specs.declared.problem.ProblemParts.{ProblemParts}
use Rattle.kept_trees.specs.OwnTrees.{HeldPart, held_as}
use Rattle.kept_trees.specs.Results.{branches_met}
use Rattle.kept_trees.specs.Keeping.{is_held}
use Rattle.kept_trees.proofs.HeldLists.{held_is_in, in_is_held}
use Rattle.map_edits.specs.declared.edit.Edit.{Edit}
use Rattle.map_edits.specs.Effects.{feed_after, choices_after}
use Rattle.map_faults.specs.declared.fault.MakeFault.{MakeFault}
use Rattle.graph_maps.specs.Problems.{Drawn, untangled_problem}
use Rattle.map_engine.specs.Making.{drawn_outcome}
use Rattle.graph_maps.specs.Solving.{parts_in}
use Rattle.graph_maps.specs.Making.{plan_of}
use Rattle.graph_maps.specs.Keeping.{parts_missing, missing_branches}
use Rattle.map_engine.specs.Keeping.{branches_left}
use Rattle.edit_session.specs.Scripts.{finished_with, branches_over}

-- where one test passes no more elements than another, their sum is no greater
fewer_pass : {X : Type 0} (f : X → ℕ) (p q : X → Bool) → ((x : X) → p x ≡ true → q x ≡ true) → (xs : List X) → sum_by f (filter p xs) ≤ sum_by f (filter q xs)
fewer_pass f p q passes [] = omega arith
fewer_pass {X} f p q passes (x ∷ xs) = by_tests (p x) (q x) refl refl (fewer_pass f p q passes xs)
  where
    by_tests : (a b : Bool) → p x ≡ a → q x ≡ b → sum_by f (filter p xs) ≤ sum_by f (filter q xs) → sum_by f (cond a (x ∷ filter p xs) (filter p xs)) ≤ sum_by f (cond b (x ∷ filter q xs) (filter q xs))
    by_tests true true here there later = omega (arith, later, sum_by-cons f x (filter p xs), sum_by-cons f x (filter q xs))
    by_tests true false here there later = absurd (let passed : q x ≡ true = passes x here in cc)
    by_tests false true here there later = omega (arith, later, sum_by-cons f x (filter q xs))
    by_tests false false here there later = later

-- a part that is not held among more is not held among these
absent_before : (old new : List HeldPart) (h : HeldPart) → All (Contains new) old → not (is_held new h) ≡ true → not (is_held old h) ≡ true
absent_before old new h kept absent = by_test (is_held old h) refl
  where
    by_test : (b : Bool) → is_held old h ≡ b → not b ≡ true
    by_test false here = refl
    by_test true here =
        let there : is_held new h ≡ true = in_is_held new h (All-contains (Contains new) old h kept (held_is_in old h here)) in
        sym (ap not there) ∙ absent

-- the more is held, the fewer branch nodes of a problem are left
fewer_missing : (old new : List HeldPart) (plan : SearchPlan) (p : ProblemParts) → All (Contains new) old → sum_by (branches_met plan p) (parts_missing new plan p) ≤ sum_by (branches_met plan p) (parts_missing old plan p)
fewer_missing old new plan p kept =
    fewer_pass (branches_met plan p) (λ (part : List SegId). not (is_held new (held_as plan p part))) (λ (part : List SegId). not (is_held old (held_as plan p part)))
    (λ part absent. absent_before old new (held_as plan p part) kept absent) (parts_in p)

-- and of a map
pub fewer_left : (old new : List HeldPart) (feed : Feed) (choices : Choices) (method : MethodChoices) → All (Contains new) old → branches_left new feed choices method ≤ branches_left old feed choices method
fewer_left old new feed choices method kept = by_drawn (drawn_outcome feed choices method)
  where
    by_drawn : (drawn : Result Drawn MakeFault) → missing_branches new (plan_of choices method) drawn ≤ missing_branches old (plan_of choices method) drawn
    by_drawn (Err stop) = omega arith
    by_drawn (Ok drawn) = fewer_missing old new (plan_of choices method) (untangled_problem drawn.problem) kept

module _ (feed : Feed) (choices : Choices) (method : MethodChoices) where
  -- the parts that draws finish, one draw after another
  abbrev pub finished_over : List (List Edit) → List HeldPart
  finished_over drawn = flat_map (finished_with feed choices method) drawn

  -- the branch nodes of a draw that no earlier part has
  abbrev pub left_with : List HeldPart → List Edit → ℕ
  left_with finished standing = branches_left finished (feed_after standing feed) (choices_after standing choices) method

  -- one draw more has the branch nodes that are left behind the parts that all draws before it finished
  pub branches_more : (finished : List HeldPart) (drawn : List (List Edit)) (standing : List Edit)
      → branches_over feed choices method finished (drawn ++ standing ∷ []) ≡ branches_over feed choices method finished drawn + left_with (finished ++ finished_over drawn) standing
  branches_more finished [] standing =
      let same : left_with (finished ++ []) standing ≡ left_with finished standing = ap (λ (f : List HeldPart). left_with f standing) (append-nil finished) in
      omega (arith, same)
  branches_more finished (first ∷ later) standing =
      let next : List HeldPart = finished ++ finished_with feed choices method first in
      let rest : branches_over feed choices method next (later ++ standing ∷ []) ≡ branches_over feed choices method next later + left_with (next ++ finished_over later) standing =
      branches_more next later standing in
      let same : left_with (next ++ finished_over later) standing ≡ left_with (finished ++ finished_over (first ∷ later)) standing =
      ap (λ (f : List HeldPart). left_with f standing) (append_assoc finished (finished_with feed choices method first) (finished_over later)) in
      omega (arith, rest, same)

  -- the first draws have no more branch nodes than all of them
  pub branches_front : (finished : List HeldPart) (drawn more : List (List Edit)) → branches_over feed choices method finished drawn ≤ branches_over feed choices method finished (drawn ++ more)
  branches_front finished [] more = omega arith
  branches_front finished (first ∷ later) more =
      let rest : branches_over feed choices method (finished ++ finished_with feed choices method first) later ≤ branches_over feed choices method (finished ++ finished_with feed choices method first) (later ++ more) =
      branches_front (finished ++ finished_with feed choices method first) later more in
      omega (arith, rest)
