-- Parts each of which is solvable are solved in turn.
use Rattle.std.proofs.Common.{◌≡◌, ◌∙◌, ap, refl, ℕ, ◌+◌, true, List, [], ◌∷◌, Result, Ok, Err, All}
use Rattle.std.proofs.lemmas.List.Elements.{All-head, All-tail}
use Rattle.map_base.specs.declared.ids.SegId.{SegId}
use Rattle.map_base.specs.Settings.{Choices}
use Rattle.map_method.specs.Methods.{MethodChoices}
use Rattle.transit_feed.specs.Feeds.{Feed}
use Rattle.order_model.specs.declared.problem.ProblemParts.{ProblemParts}
use Rattle.order_search.specs.declared.found.SearchFault.{SearchFault}
use Rattle.kept_trees.specs.declared.plan.SearchPlan.{SearchPlan}
use Rattle.kept_trees.specs.Results.{PartResult, part_outcome}
use Rattle.map_faults.specs.declared.fault.MakeFault.{MakeFault}
use Rattle.graph_maps.specs.Problems.{untangled_problem, Drawn}
use Rattle.graph_maps.specs.Solving.{is_found, is_solvable, parts_in, solve_from, solved, solved_first, SolvedPart}
use Rattle.graph_maps.specs.Moving.{after_moves}
use Rattle.graph_maps.specs.Making.{if_solved, plan_of, solved_map, solved_of, solved_with, MapBytes}
use Rattle.map_engine.specs.Making.{drawn_outcome, make_outcome}
use Rattle.map_engine.specs.Tables.{subject_of}

-- a part that is found, before others that are solved
first_of : (k : ℕ) (part : List SegId) (found : Result PartResult SearchFault) (later : Result (List SolvedPart) MakeFault) (done : List SolvedPart)
    → is_found found ≡ true → later ≡ Ok done → (all : List SolvedPart) × (solved_first k part found later ≡ Ok all)
first_of k part (Ok r) later done is rest = (solved part r ∷ done, ap (solved_first k part (Ok r)) rest)
first_of k part (Err why) later done is rest = absurd (cc)

all_solved : (plan : SearchPlan) (p : ProblemParts) (k : ℕ) (parts : List (List SegId)) → All (λ part. is_solvable plan p part ≡ true) parts
    → (done : List SolvedPart) × (solve_from plan p k parts ≡ Ok done)
all_solved plan p k [] all = ([], refl)
all_solved plan p k (part ∷ parts) all =
    let later = all_solved plan p (k + 1) parts (All-tail (λ part. is_solvable plan p part ≡ true) part parts all) in
    first_of k part (part_outcome plan p part) (solve_from plan p (k + 1) parts) later.0
    (All-head (λ part. is_solvable plan p part ≡ true) part parts all) later.1

pub map_of_solvable : (feed : Feed) (choices : Choices) (method : MethodChoices) (drawn : Drawn) → drawn_outcome feed choices method ≡ Ok drawn
    → All (λ part. is_solvable (plan_of choices method) (untangled_problem drawn.problem) part ≡ true) (parts_in (untangled_problem drawn.problem))
    → (made : MapBytes) × (make_outcome feed choices method ≡ Ok made)
map_of_solvable feed choices method drawn is all =
    let done = all_solved (plan_of choices method) (untangled_problem drawn.problem) 0 (parts_in (untangled_problem drawn.problem)) all in (
      solved_map (subject_of feed choices) (record { drawn = after_moves method.moves drawn; parts = done.0 }),
      ap (λ (d : Result Drawn MakeFault). if_solved (solved_map (subject_of feed choices)) (solved_of choices method d)) is
          ∙ ap (λ (r : Result (List SolvedPart) MakeFault). if_solved (solved_map (subject_of feed choices)) (solved_with method.moves drawn r)) done.1,
    )
