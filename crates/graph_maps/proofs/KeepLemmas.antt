-- What is kept while parts are solved one after the other.
use Rattle.std.proofs.Common.{◌≡◌, ◌∙◌, ap, sym, subst, refl, ℕ, zero, suc, ◌+◌, ◌<◌, ◌≤◌, Bool, true, false, cond, List, [], ◌∷◌, length, take, get_or, sum_by, arith, Contains, Result, Ok, Err}
use Rattle.std.specs.Prelude.{not}
use Rattle.std.specs.List.{All, AllByRecursion, filter, take_while}
use Rattle.std.proofs.lemmas.List.{take_all}
use Rattle.std.proofs.lemmas.List.Elements.{All-from_recursion, recursion_from_All, All-map, All-more, All-weaker, All-contains, All-contains_itself, All-nil}
use Rattle.std.proofs.lemmas.List.Sums.{take_while-cons, sum_by-cons}
use Rattle.map_base.specs.declared.ids.SegId.{SegId}
use Rattle.kept_trees.specs.declared.plan.SearchPlan.{SearchPlan}
use Rattle.order_model.specs.declared.problem.ProblemParts.{ProblemParts}
use Rattle.order_search.specs.declared.found.SearchFault.{SearchFault}
use Rattle.kept_trees.specs.Results.{PartResult, part_outcome, branches_met}
use Rattle.kept_trees.specs.OwnTrees.{HeldPart, held_as}
use Rattle.kept_trees.specs.Keeping.{is_held, with_part, branches_to_meet}
use Rattle.kept_trees.proofs.HeldLists.{stays_in}
use Rattle.map_faults.specs.declared.fault.MakeFault.{MakeFault}
use Rattle.map_faults.specs.declared.fault.MakeFault.TheVariants as fault
use Rattle.graph_maps.specs.Problems.{Drawn, untangled_problem}
use Rattle.graph_maps.specs.Solving.{is_found, parts_in, is_solvable, solved_first}
use Rattle.graph_maps.specs.Making.{HasCause}
use Rattle.graph_maps.specs.Stages.{IsUnsolved}
use Rattle.graph_maps.specs.Keeping.{finished_of, finished_in, HoldsFinished, missing_branches}

-- what is held is held
pub itself_held : (held : List HeldPart) → All (Contains held) held
itself_held held = All-contains_itself held

-- what was held is held among more
pub still_held : (old now new : List HeldPart) → All (Contains now) old → All (Contains new) now
    → All (Contains new) old
still_held old now new before kept = All-weaker (Contains now) (Contains new)
    (λ p there. All-contains (Contains new) now p kept there) old before

-- with one part more what was held stays
pub all_stay : (held : List HeldPart) (h : HeldPart) → All (Contains (with_part held h)) held
all_stay held h = All-weaker (Contains held) (Contains (with_part held h)) (stays_in held h) held
    (All-contains_itself held)

-- these parts of a problem are held
abbrev pub AreHeld : SearchPlan → List HeldPart → ProblemParts → List (List SegId) → Type 0
AreHeld plan held p parts = All (λ (part : List SegId). Contains held (held_as plan p part)) parts

-- parts that were held are held among more
pub all_held : (plan : SearchPlan) (old new : List HeldPart) (p : ProblemParts) (parts : List (List SegId))
    → All (Contains new) old → AreHeld plan old p parts → AreHeld plan new p parts
all_held plan old new p parts kept before = All-weaker (λ (q : List SegId). Contains old (held_as plan p q))
    (λ (q : List SegId). Contains new (held_as plan p q))
    (λ q there. All-contains (Contains new) old (held_as plan p q) kept there) parts before

-- one part more is held
pub one_held : (plan : SearchPlan) (old new : List HeldPart) (p : ProblemParts) (k : ℕ) (part : List SegId)
    → k < length (parts_in p) → part ≡ get_or (parts_in p) k part → All (Contains new) old
    → Contains new (held_as plan p part) → AreHeld plan old p (take k (parts_in p))
    → AreHeld plan new p (take (k + 1) (parts_in p))
one_held plan old new p k part below is kept here before =
    All-more (λ (q : List SegId). Contains new (held_as plan p q)) (parts_in p) k part below
    (all_held plan old new p (take k (parts_in p)) kept before)
    (subst (λ (q : List SegId). Contains new (held_as plan p q)) is here)

module _ {X : Type 0} (P : X → Type 0) (test : X → Bool) where
  none_more : (x : X) (xs : List X) → test x ≡ false → AllByRecursion P (take_while test (x ∷ xs))
  none_more x xs fails = subst (AllByRecursion P)
      (sym (take_while-cons test x xs ∙ ap (λ b. cond b (x ∷ take_while test xs) []) fails)) tt

  one_more : (x : X) (xs : List X) → test x ≡ true → P x → AllByRecursion P (take_while test xs)
      → AllByRecursion P (take_while test (x ∷ xs))
  one_more x xs passes here later = subst (AllByRecursion P)
      (sym (take_while-cons test x xs ∙ ap (λ b. cond b (x ∷ take_while test xs) []) passes)) (here, later)

  -- those before the first that fails the test are among those before one that fails it
  before_failing : (xs : List X) (k : ℕ) (d : X) → k < length xs → test (get_or xs k d) ≡ false
      → AllByRecursion P (take k xs) → AllByRecursion P (take_while test xs)
  before_failing [] k d below fails held = absurd (omega (arith, below))
  before_failing (x ∷ xs) zero d below fails held = none_more x xs fails
  before_failing (x ∷ xs) (suc k) d below fails held = by_test (test x) refl
      (before_failing xs k d (omega (arith, below)) fails held.1)
    where
      by_test : (b : Bool) → test x ≡ b → AllByRecursion P (take_while test xs)
          → AllByRecursion P (take_while test (x ∷ xs))
      by_test true h later = one_more x xs h held.0 later
      by_test false h later = none_more x xs h

  -- and among all
  before_end : (xs : List X) → AllByRecursion P xs → AllByRecursion P (take_while test xs)
  before_end [] held = tt
  before_end (x ∷ xs) held = by_test (test x) refl (before_end xs held.1)
    where
      by_test : (b : Bool) → test x ≡ b → AllByRecursion P (take_while test xs)
          → AllByRecursion P (take_while test (x ∷ xs))
      by_test true h later = one_more x xs h held.0 later
      by_test false h later = none_more x xs h

finished_from : (plan : SearchPlan) (p : ProblemParts) (held : List HeldPart)
    → AllByRecursion (λ (part : List SegId). Contains held (held_as plan p part))
    (take_while (is_solvable plan p) (parts_in p)) → All (Contains held) (finished_of plan p)
finished_from plan p held each = All-map (Contains held) (held_as plan p) (take_while (is_solvable plan p) (parts_in p))
    (All-from_recursion (λ (part : List SegId). Contains held (held_as plan p part))
    (take_while (is_solvable plan p) (parts_in p)) each)

-- where part k is refused, its search finds nothing
none_found : (k : ℕ) (part : List SegId) (o : Result PartResult SearchFault) (f : MakeFault)
    → solved_first k part o (Ok []) ≡ Err f → is_found o ≡ false
none_found k part (Ok r) f h = absurd cc
none_found k part (Err why) f h = refl

-- where a part is not solved, those before it are held
pub held_before : (plan : SearchPlan) (X : Type 0) (p : ProblemParts) (k : ℕ) (part : List SegId) (held : List HeldPart)
    (e : MakeFault) → k < length (parts_in p) → part ≡ get_or (parts_in p) k part
    → IsUnsolved plan p k part e → AreHeld plan held p (take k (parts_in p))
    → HoldsFinished {X = X} (Err e) (finished_of plan p) held
held_before plan X p k part held e below is why before = by_fault e why
  where
    all : is_solvable plan p part ≡ false → All (Contains held) (finished_of plan p)
    all fails = finished_from plan p held
        (before_failing (λ (q : List SegId). Contains held (held_as plan p q)) (is_solvable plan p)
        (parts_in p) k part below (ap (is_solvable plan p) (sym is) ∙ fails)
        (recursion_from_All (λ (q : List SegId). Contains held (held_as plan p q)) (take k (parts_in p)) before))

    by_fault : (f : MakeFault) → IsUnsolved plan p k part f → HoldsFinished {X = X} (Err f) (finished_of plan p) held
    by_fault fault.NoMemory w = tt
    by_fault f w = all (none_found k part (part_outcome plan p part) f w)

-- where all are solved, all are held
pub held_all : (plan : SearchPlan) (p : ProblemParts) (k : ℕ) (held : List HeldPart) → length (parts_in p) ≤ k
    → AreHeld plan held p (take k (parts_in p)) → All (Contains held) (finished_of plan p)
held_all plan p k held over each = finished_from plan p held
    (before_end (λ (q : List SegId). Contains held (held_as plan p q)) (is_solvable plan p) (parts_in p)
    (recursion_from_All (λ (q : List SegId). Contains held (held_as plan p q)) (parts_in p)
    (subst (AreHeld plan held p) (take_all k (parts_in p) over) each)))

-- The branch nodes of the parts that are not held.

pub missing_sum : (plan : SearchPlan) (held : List HeldPart) (p : ProblemParts) (parts : List (List SegId))
    → sum_by (branches_met plan p) (filter (λ (part : List SegId). not (is_held held (held_as plan p part))) parts)
    ≡ sum_by (branches_to_meet held plan p) parts
missing_sum plan held p [] = refl
missing_sum plan held p (part ∷ parts) = by_test (is_held held (held_as plan p part)) refl
    (missing_sum plan held p parts)
  where
    rest : List (List SegId)
    rest = filter (λ (q : List SegId). not (is_held held (held_as plan p q))) parts

    here : sum_by (branches_to_meet held plan p) (part ∷ parts)
        ≡ branches_to_meet held plan p part + sum_by (branches_to_meet held plan p) parts
    here = sum_by-cons (branches_to_meet held plan p) part parts

    by_test : (b : Bool) → is_held held (held_as plan p part) ≡ b
        → sum_by (branches_met plan p) rest ≡ sum_by (branches_to_meet held plan p) parts
        → sum_by (branches_met plan p) (cond (not (is_held held (held_as plan p part))) (part ∷ rest) rest)
        ≡ sum_by (branches_to_meet held plan p) (part ∷ parts)
    by_test true h later =
        let left : sum_by (branches_met plan p) (cond (not (is_held held (held_as plan p part))) (part ∷ rest) rest)
        ≡ sum_by (branches_met plan p) rest =
        ap (λ (b : Bool). sum_by (branches_met plan p) (cond (not b) (part ∷ rest) rest)) h in
        let none : branches_to_meet held plan p part ≡ 0 = ap (λ (b : Bool). cond b 0 (branches_met plan p part)) h in
        omega (arith, left, later, here, none)
    by_test false h later =
        let left : sum_by (branches_met plan p) (cond (not (is_held held (held_as plan p part))) (part ∷ rest) rest)
        ≡ sum_by (branches_met plan p) (part ∷ rest) =
        ap (λ (b : Bool). sum_by (branches_met plan p) (cond (not b) (part ∷ rest) rest)) h in
        let all : branches_to_meet held plan p part
        ≡ branches_met plan p part = ap (λ (b : Bool). cond b 0 (branches_met plan p part)) h in
        omega (arith, left, later, here, all, sum_by-cons (branches_met plan p) part rest)

-- the branch nodes that are left are those that the parts of the untangled problem have to meet
pub left_is : (held : List HeldPart) (plan : SearchPlan) (outcome : Result Drawn MakeFault) (drawn : Drawn)
    → outcome ≡ Ok drawn
    → missing_branches held plan outcome ≡ sum_by (branches_to_meet held plan (untangled_problem drawn.problem))
    (parts_in (untangled_problem drawn.problem))
left_is held plan outcome drawn is = ap (missing_branches held plan) is
    ∙ missing_sum plan held (untangled_problem drawn.problem) (parts_in (untangled_problem drawn.problem))

-- so many steps as they meet over a plan are those that are left
pub steps_left : (held : List HeldPart) (plan q : SearchPlan) (outcome : Result Drawn MakeFault) (drawn : Drawn)
    (before after : ℕ) → outcome ≡ Ok drawn → q ≡ plan
    → after ≤ before + sum_by (branches_to_meet held q (untangled_problem drawn.problem))
    (parts_in (untangled_problem drawn.problem)) → after ≤ before + missing_branches held plan outcome
steps_left held plan q outcome drawn before after is same few =
    let p : ProblemParts = untangled_problem drawn.problem in
    let taken = subst (λ (r : SearchPlan). after ≤ before + sum_by (branches_to_meet held r p) (parts_in p)) same few in
    omega (arith, left_is held plan outcome drawn is, taken)

-- what a map finishes is what its untangled problem finishes over a plan
pub finished_is : (plan q : SearchPlan) (outcome : Result Drawn MakeFault) (drawn : Drawn) → outcome ≡ Ok drawn
    → q ≡ plan → finished_of q (untangled_problem drawn.problem) ≡ finished_in plan outcome
finished_is plan q outcome drawn is same =
    ap (λ (r : SearchPlan). finished_of r (untangled_problem drawn.problem)) same ∙ sym (ap (finished_in plan) is)

-- where there is no problem, nothing is finished
pub nothing_finished : (X : Type 0) (plan : SearchPlan) (outcome : Result Drawn MakeFault) (held : List HeldPart)
    (e : MakeFault) → HasCause outcome e → HoldsFinished {X = X} (Err e) (finished_in plan outcome) held
nothing_finished X plan outcome held e cause = by_fault e cause
  where
    none : (f : MakeFault) → outcome ≡ Err f → All (Contains held) (finished_in plan outcome)
    none f h = subst (All (Contains held)) (sym (ap (finished_in plan) h)) (All-nil (Contains held))

    by_fault : (f : MakeFault) → HasCause outcome f → HoldsFinished {X = X} (Err f) (finished_in plan outcome) held
    by_fault fault.NoMemory h = tt
    by_fault f h = none f h

-- what a refusal says of held parts, whatever was refused
pub same_held : (X Y : Type 0) (e : MakeFault) (parts held : List HeldPart) → HoldsFinished {X = X} (Err e) parts held
    → HoldsFinished {X = Y} (Err e) parts held
same_held X Y fault.NoMemory parts held h = tt
same_held X Y e parts held h = h
