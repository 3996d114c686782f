-- What was made once is not searched again.
use Rattle.std.proofs.Common.{◌≡◌, ◌∙◌, ap, refl, ℕ, ◌+◌, Bool, cond, List, [], ◌∷◌, map, sum_by, subst, arith, Contains, Result, Ok, Err}
use Rattle.std.specs.List.{All, AllByRecursion, take_while}
use Rattle.std.proofs.lemmas.List.Elements.{recursion_from_All}
use Rattle.std.proofs.lemmas.List.Sums.{take_while-cons, sum_by-cons}
use Rattle.map_base.specs.declared.ids.SegId.{SegId}
use Rattle.map_base.specs.Settings.{Choices}
use Rattle.kept_trees.specs.declared.plan.SearchPlan.{SearchPlan}
use Rattle.map_method.specs.Methods.{MethodChoices}
use Rattle.graph_maps.specs.Subjects.{Subject}
use Rattle.order_model.specs.declared.problem.ProblemParts.{ProblemParts}
use Rattle.order_search.specs.declared.found.SearchFault.{SearchFault}
use Rattle.kept_trees.specs.Results.{PartResult, part_outcome, branches_met}
use Rattle.kept_trees.specs.OwnTrees.{HeldPart, held_as}
use Rattle.kept_trees.specs.Keeping.{branches_to_meet}
use Rattle.kept_trees.proofs.HeldLists.{in_is_held}
use Rattle.map_faults.specs.declared.fault.MakeFault.{MakeFault}
use Rattle.graph_maps.specs.Problems.{Drawn, untangled_problem}
use Rattle.graph_maps.specs.Solving.{SolvedPart, solved, with_solved, is_found, is_solvable, solved_first, solve_from, solve_outcome, parts_in}
use Rattle.graph_maps.specs.Making.{MapBytes, if_solved, plan_of, solved_map, solved_of, solved_with}
use Rattle.graph_maps.specs.Keeping.{finished_in, finished_of, missing_branches}
use Rattle.graph_maps.proofs.KeepLemmas.{missing_sum}

-- where a part and those after it are solved, those after it are
rest_solved : (s : SolvedPart) (outcome : Result (List SolvedPart) MakeFault) (done : List SolvedPart)
    → with_solved s outcome ≡ Ok done → (later : List SolvedPart) × (outcome ≡ Ok later)
rest_solved s (Ok later) done h = (later, refl)
rest_solved s (Err stop) done h = absurd cc

-- where all parts are solved, none of them is the first that is not
all_taken : (plan : SearchPlan) (p : ProblemParts) (k : ℕ) (parts : List (List SegId)) (done : List SolvedPart)
    → solve_from plan p k parts ≡ Ok done → take_while (is_solvable plan p) parts ≡ parts
all_taken plan p k [] done h = refl
all_taken plan p k (part ∷ parts) done h =
    by_found (part_outcome plan p part) refl h (λ later i. all_taken plan p (k + 1) parts later i)
  where
    by_found : (o : Result PartResult SearchFault) → part_outcome plan p part ≡ o
        → solved_first k part o (solve_from plan p (k + 1) parts) ≡ Ok done
        → ((later : List SolvedPart) → solve_from plan p (k + 1) parts ≡ Ok later
        → take_while (is_solvable plan p) parts ≡ parts) → take_while (is_solvable plan p) (part ∷ parts) ≡ part ∷ parts
    by_found (Ok r) is e more =
        let rest = rest_solved (solved part r) (solve_from plan p (k + 1) parts) done e in
        take_while-cons (is_solvable plan p) part parts
        ∙ ap (λ (b : Bool). cond b (part ∷ take_while (is_solvable plan p) parts) []) (ap is_found is)
        ∙ ap (λ (ps : List (List SegId)). part ∷ ps) (more rest.0 rest.1)
    by_found (Err why) is e more = absurd cc

-- no branch nodes are to be met for parts that are held
none_to_meet : (plan : SearchPlan) (held : List HeldPart) (p : ProblemParts) (parts : List (List SegId))
    → AllByRecursion (Contains held) (map (held_as plan p) parts) → sum_by (branches_to_meet held plan p) parts ≡ 0
none_to_meet plan held p [] there = refl
none_to_meet plan held p (part ∷ parts) there =
    let none : branches_to_meet held plan p part
    ≡ 0 = ap (λ (b : Bool). cond b 0 (branches_met plan p part)) (in_is_held held (held_as plan p part) there.0) in
    omega (arith, sum_by-cons (branches_to_meet held plan p) part parts, none, none_to_meet plan held p parts there.1)

-- where the parts of a problem are solved and those that it finishes are held, none is missing
none_missing : (plan : SearchPlan) (held : List HeldPart) (p : ProblemParts) (done : List SolvedPart)
    → solve_outcome plan p ≡ Ok done → All (Contains held) (finished_of plan p)
    → sum_by (branches_to_meet held plan p) (parts_in p) ≡ 0
none_missing plan held p done h there = none_to_meet plan held p (parts_in p)
    (recursion_from_All (Contains held) (map (held_as plan p) (parts_in p))
    (subst (λ (parts : List (List SegId)). All (Contains held) (map (held_as plan p) parts))
    (all_taken plan p 0 (parts_in p) done h) there))

-- where a map is made of a drawing, its parts are solved
parts_solved : (subject : Subject) (moves : ℕ) (drawn : Drawn) (outcome : Result (List SolvedPart) MakeFault)
    (made : MapBytes) → if_solved (solved_map subject) (solved_with moves drawn outcome) ≡ Ok made
    → (done : List SolvedPart) × (outcome ≡ Ok done)
parts_solved subject moves drawn (Ok done) made h = (done, refl)
parts_solved subject moves drawn (Err stop) made h = absurd cc

-- where a map is made of what is drawn and each part that it finishes is held, no branch node is left
pub none_left : (subject : Subject) (choices : Choices) (method : MethodChoices) (drawn : Result Drawn MakeFault)
    (made : MapBytes) (held : List HeldPart) → if_solved (solved_map subject) (solved_of choices method drawn) ≡ Ok made
    → All (Contains held) (finished_in (plan_of choices method) drawn)
    → missing_branches held (plan_of choices method) drawn ≡ 0
none_left subject choices method (Err stop) made held h there = refl
none_left subject choices method (Ok drawn) made held h there =
    let p : ProblemParts = untangled_problem drawn.problem in
    let found = parts_solved subject method.moves drawn (solve_outcome (plan_of choices method) p) made h in
    missing_sum (plan_of choices method) held p (parts_in p)
    ∙ none_missing (plan_of choices method) held p found.0 found.1 there
