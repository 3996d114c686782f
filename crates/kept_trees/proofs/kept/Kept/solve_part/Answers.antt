use Rattle.std.proofs.Common.{sym, subst, ap, ◌∙◌, arith, length}
use Rattle.std.proofs.lemmas.List.{length-map}
use Rattle.order_model.specs.declared.problem.ProblemParts.{ProblemParts}
use Rattle.order_model.specs.Problems.{IsProblem}
use Rattle.order_search.specs.declared.found.SearchFault.TheVariants as fault
use Rattle.kept_trees.specs.OwnTrees.{part_of_key}
use Rattle.kept_trees.specs.Results.{own_outcome, part_outcome}
use Rattle.kept_trees.proofs.OwnProblems.{problem_by_itself}
use Rattle.kept_trees.proofs.OwnNumbers.{some_segments}
use Rattle.kept_trees.proofs.Serving.{served_some, none_left}
use Rattle.kept_trees.proofs.Solving.{is_fault, handed_on, refusal_there, found_tree, found_result, served_held, served_steps, searched_steps, added_absent, added_own, added_held}
use Rattle.kept_trees.proofs.kept.Kept.solve_part.Goals as goal

pub returns-in_err-own-clause-fault : goal.returns-in_err-own-clause-fault
returns-in_err-own-clause-fault g c =
    handed_on (part_outcome c.args.plan c.args.problem.now c.args.part.now) c.from_residual-in_err-own.result c.in_err-own.field-0.0 c.from_residual-in_err-own.ensures.1
    (refusal_there c.args.problem.now c.args.part.now c.in_ok-key.ensures.fits c.requires.known c.requires.rising c.args.plan c.requires.budget
    (part_of_key c.in_ok-key.key) c.in_ok-key.ensures.part c.in_err-own.field-0.0
    (is_fault (own_outcome c.args.plan (part_of_key c.in_ok-key.key)) c.in_err-own.field-0.0 c.in_err-own.ensures.refused))

pub found_in-requires : goal.found_in-requires
found_in-requires g c =
    found_tree c.args.problem.now c.args.part.now c.in_ok-key.ensures.fits c.requires.known c.requires.rising c.args.plan c.requires.budget
    (part_of_key c.in_ok-key.key) c.in_ok-key.ensures.part c.in-Some.own.now c.args.numbers.now c.requires.numbers
    (served_some c.args.self.now c.args.plan (part_of_key c.in_ok-key.key) c.in_ok-own.field-0 c.in-Some.own c.in-Some.is c.in_ok-own.ensures.found).0

pub returns-in-Some-clause-found : goal.returns-in-Some-clause-found
returns-in-Some-clause-found g c =
    found_result c.args.problem.now c.args.part.now c.in_ok-key.ensures.fits c.requires.known c.requires.rising c.args.plan c.requires.budget
    (part_of_key c.in_ok-key.key) c.in_ok-key.ensures.part c.in-Some.own.now c.args.numbers.now c.requires.numbers
    (served_some c.args.self.now c.args.plan (part_of_key c.in_ok-key.key) c.in_ok-own.field-0 c.in-Some.own c.in-Some.is c.in_ok-own.ensures.found).0
    c.in_ok-found_in.field-0 c.in_ok-found_in.ensures

pub returns-in-Some-clause-held : goal.returns-in-Some-clause-held
returns-in-Some-clause-held g c =
    served_held c.args.problem.now c.args.part.now c.in_ok-key.ensures.fits c.requires.known c.requires.rising c.args.plan c.requires.budget
    (part_of_key c.in_ok-key.key) c.in_ok-key.ensures.part c.args.self.now c.in-Some.own.now
    (served_some c.args.self.now c.args.plan (part_of_key c.in_ok-key.key) c.in_ok-own.field-0 c.in-Some.own c.in-Some.is c.in_ok-own.ensures.found)

pub returns-in-Some-clause-steps : goal.returns-in-Some-clause-steps
returns-in-Some-clause-steps g c =
    served_steps c.args.problem.now c.args.part.now c.in_ok-key.ensures.fits c.requires.known c.requires.rising c.args.plan c.requires.budget
    (part_of_key c.in_ok-key.key) c.in_ok-key.ensures.part c.args.self.now c.in-Some.own.now
    (served_some c.args.self.now c.args.plan (part_of_key c.in_ok-key.key) c.in_ok-own.field-0 c.in-Some.own c.in-Some.is c.in_ok-own.ensures.found)
    c.args.steps.now

pub found_in-requires-in-Some-bound_result : goal.found_in-requires-in-Some-bound_result
found_in-requires-in-Some-bound_result g c =
    found_tree c.args.problem.now c.args.part.now c.in_ok-key.ensures.fits c.requires.known c.requires.rising c.args.plan c.requires.budget
    (part_of_key c.in_ok-key.key) c.in_ok-key.ensures.part c.in-Some-bound_result.own.now c.args.numbers.now c.requires.numbers
    c.in-Some-bound_result.ensures.found.0

pub returns-in-Some-bound_result-clause-found : goal.returns-in-Some-bound_result-clause-found
returns-in-Some-bound_result-clause-found g c =
    found_result c.args.problem.now c.args.part.now c.in_ok-key.ensures.fits c.requires.known c.requires.rising c.args.plan c.requires.budget
    (part_of_key c.in_ok-key.key) c.in_ok-key.ensures.part c.in-Some-bound_result.own.now c.args.numbers.now c.requires.numbers
    c.in-Some-bound_result.ensures.found.0 c.in_ok-found_in-2.field-0 c.in_ok-found_in-2.ensures

pub returns-in-Some-bound_result-clause-held : goal.returns-in-Some-bound_result-clause-held
returns-in-Some-bound_result-clause-held g c =
    served_held c.args.problem.now c.args.part.now c.in_ok-key.ensures.fits c.requires.known c.requires.rising c.args.plan c.requires.budget
    (part_of_key c.in_ok-key.key) c.in_ok-key.ensures.part c.args.self.now c.in-Some-bound_result.own.now c.in-Some-bound_result.ensures.found

pub returns-in-Some-bound_result-clause-steps : goal.returns-in-Some-bound_result-clause-steps
returns-in-Some-bound_result-clause-steps g c =
    served_steps c.args.problem.now c.args.part.now c.in_ok-key.ensures.fits c.requires.known c.requires.rising c.args.plan c.requires.budget
    (part_of_key c.in_ok-key.key) c.in_ok-key.ensures.part c.args.self.now c.in-Some-bound_result.own.now c.in-Some-bound_result.ensures.found
    c.args.steps.now

pub search_by_itself-requires-clause-problem : goal.search_by_itself-requires-clause-problem
search_by_itself-requires-clause-problem g c =
    subst IsProblem (sym c.in_ok-key.ensures.part)
    (problem_by_itself c.args.problem.now c.args.part.now c.in_ok-key.ensures.fits c.requires.known c.requires.rising)

pub search_by_itself-requires-clause-some : goal.search_by_itself-requires-clause-some
search_by_itself-requires-clause-some g c =
    omega (
      arith,
      length-map c.in_ok-key.key.lists.items (λ lines. lines.items),
      ap (λ (o : ProblemParts). length o.segs) c.in_ok-key.ensures.part,
      some_segments c.args.problem.now c.args.part.now c.requires.rising,
    )

pub returns-in_err-own-2-clause-fault : goal.returns-in_err-own-2-clause-fault
returns-in_err-own-2-clause-fault g c =
    handed_on (part_outcome c.args.plan c.args.problem.now c.args.part.now) c.from_residual-in_err-own-2.result c.in_err-own-2.field-0.0 c.from_residual-in_err-own-2.ensures.1
    (refusal_there c.args.problem.now c.args.part.now c.in_ok-key.ensures.fits c.requires.known c.requires.rising c.args.plan c.requires.budget
    (part_of_key c.in_ok-key.key) c.in_ok-key.ensures.part c.in_err-own-2.field-0.0
    c.in_err-own-2.ensures.fault)

pub returns-in_err-own-2-clause-few_steps : goal.returns-in_err-own-2-clause-few_steps
returns-in_err-own-2-clause-few_steps g c =
    let met = searched_steps c.args.problem.now c.args.part.now c.in_ok-key.ensures.fits c.requires.known c.requires.rising c.args.plan c.requires.budget
    (part_of_key c.in_ok-key.key) c.in_ok-key.ensures.part c.args.self.now
    c.in_ok-key.key.how c.in_ok-key.ensures.how c.in_ok-key.key.spent c.in_ok-key.ensures.complete
    (c.in_ok-own.ensures.absent (none_left c.in_ok-own.field-0 c.in_default.not-Some))
    (c.bound_result.ensures.absent (none_left c.bound_result.result c.in_default-bound_result.not-Some)) in
    omega (arith, met, c.in_err-own-2.ensures.few_steps)

pub found_in-requires-2 : goal.found_in-requires-2
found_in-requires-2 g c =
    found_tree c.args.problem.now c.args.part.now c.in_ok-key.ensures.fits c.requires.known c.requires.rising c.args.plan c.requires.budget
    (part_of_key c.in_ok-key.key) c.in_ok-key.ensures.part c.in_ok-own-2.own c.args.numbers.now c.requires.numbers
    c.in_ok-own-2.ensures.found

pub returns-in_err-found-clause-fault : goal.returns-in_err-found-clause-fault
returns-in_err-found-clause-fault g c =
    handed_on (part_outcome c.args.plan c.args.problem.now c.args.part.now) c.from_residual-in_err-found.result fault.NoMemory c.from_residual-in_err-found.ensures.1 tt

pub returns-in_err-found-clause-few_steps : goal.returns-in_err-found-clause-few_steps
returns-in_err-found-clause-few_steps g c =
    let met = searched_steps c.args.problem.now c.args.part.now c.in_ok-key.ensures.fits c.requires.known c.requires.rising c.args.plan c.requires.budget
    (part_of_key c.in_ok-key.key) c.in_ok-key.ensures.part c.args.self.now
    c.in_ok-key.key.how c.in_ok-key.ensures.how c.in_ok-key.key.spent c.in_ok-key.ensures.complete
    (c.in_ok-own.ensures.absent (none_left c.in_ok-own.field-0 c.in_default.not-Some))
    (c.bound_result.ensures.absent (none_left c.bound_result.result c.in_default-bound_result.not-Some)) in
    omega (arith, met, c.in_ok-own-2.ensures.steps)

pub add-requires-clause-absent : goal.add-requires-clause-absent
add-requires-clause-absent g c =
    added_absent c.args.problem.now c.args.part.now c.in_ok-key.ensures.fits c.requires.known c.requires.rising c.args.plan c.requires.budget
    (part_of_key c.in_ok-key.key) c.in_ok-key.ensures.part c.args.self.now
    c.in_ok-key.key.how c.in_ok-key.ensures.how c.in_ok-key.key.spent c.in_ok-key.ensures.complete
    (c.in_ok-own.ensures.absent (none_left c.in_ok-own.field-0 c.in_default.not-Some))
    (c.bound_result.ensures.absent (none_left c.bound_result.result c.in_default-bound_result.not-Some))
    c.in_ok-own-2.own c.in_ok-own-2.ensures.found c.spent_in-key.result c.spent_in-key.ensures

pub add-requires-clause-own : goal.add-requires-clause-own
add-requires-clause-own g c =
    added_own c.args.problem.now c.args.part.now c.in_ok-key.ensures.fits c.requires.known c.requires.rising c.args.plan c.requires.budget
    (part_of_key c.in_ok-key.key) c.in_ok-key.ensures.part c.args.self.now
    c.in_ok-key.key.how c.in_ok-key.ensures.how c.in_ok-key.key.spent c.in_ok-key.ensures.complete
    (c.in_ok-own.ensures.absent (none_left c.in_ok-own.field-0 c.in_default.not-Some))
    (c.bound_result.ensures.absent (none_left c.bound_result.result c.in_default-bound_result.not-Some))
    c.in_ok-own-2.own c.in_ok-own-2.ensures.found c.spent_in-key.result c.spent_in-key.ensures

pub returns-in_err-add-clause-fault : goal.returns-in_err-add-clause-fault
returns-in_err-add-clause-fault g c =
    handed_on (part_outcome c.args.plan c.args.problem.now c.args.part.now) c.from_residual-in_err-add.result fault.NoMemory c.from_residual-in_err-add.ensures.1 tt

pub returns-in_err-add-clause-few_steps : goal.returns-in_err-add-clause-few_steps
returns-in_err-add-clause-few_steps g c =
    let met = searched_steps c.args.problem.now c.args.part.now c.in_ok-key.ensures.fits c.requires.known c.requires.rising c.args.plan c.requires.budget
    (part_of_key c.in_ok-key.key) c.in_ok-key.ensures.part c.args.self.now
    c.in_ok-key.key.how c.in_ok-key.ensures.how c.in_ok-key.key.spent c.in_ok-key.ensures.complete
    (c.in_ok-own.ensures.absent (none_left c.in_ok-own.field-0 c.in_default.not-Some))
    (c.bound_result.ensures.absent (none_left c.bound_result.result c.in_default-bound_result.not-Some)) in
    omega (arith, met, c.in_ok-own-2.ensures.steps)

pub returns-clause-found : goal.returns-clause-found
returns-clause-found g c =
    found_result c.args.problem.now c.args.part.now c.in_ok-key.ensures.fits c.requires.known c.requires.rising c.args.plan c.requires.budget
    (part_of_key c.in_ok-key.key) c.in_ok-key.ensures.part c.in_ok-own-2.own c.args.numbers.now c.requires.numbers
    c.in_ok-own-2.ensures.found c.in_ok-found.found c.in_ok-found.ensures

pub returns-clause-held : goal.returns-clause-held
returns-clause-held g c =
    c.in_ok-add.ensures.held ∙ added_held c.args.problem.now c.args.part.now c.in_ok-key.ensures.fits c.requires.known c.requires.rising c.args.plan c.requires.budget
    (part_of_key c.in_ok-key.key) c.in_ok-key.ensures.part c.args.self.now
    c.in_ok-key.key.how c.in_ok-key.ensures.how c.in_ok-key.key.spent c.in_ok-key.ensures.complete
    (c.in_ok-own.ensures.absent (none_left c.in_ok-own.field-0 c.in_default.not-Some))
    (c.bound_result.ensures.absent (none_left c.bound_result.result c.in_default-bound_result.not-Some))
    c.in_ok-own-2.own c.in_ok-own-2.ensures.found c.spent_in-key.result c.spent_in-key.ensures

pub returns-clause-steps : goal.returns-clause-steps
returns-clause-steps g c =
    let met = searched_steps c.args.problem.now c.args.part.now c.in_ok-key.ensures.fits c.requires.known c.requires.rising c.args.plan c.requires.budget
    (part_of_key c.in_ok-key.key) c.in_ok-key.ensures.part c.args.self.now
    c.in_ok-key.key.how c.in_ok-key.ensures.how c.in_ok-key.key.spent c.in_ok-key.ensures.complete
    (c.in_ok-own.ensures.absent (none_left c.in_ok-own.field-0 c.in_default.not-Some))
    (c.bound_result.ensures.absent (none_left c.bound_result.result c.in_default-bound_result.not-Some)) in
    omega (arith, met, c.in_ok-own-2.ensures.steps)

pub returns-clause-few_steps : goal.returns-clause-few_steps
returns-clause-few_steps g c =
    let met = searched_steps c.args.problem.now c.args.part.now c.in_ok-key.ensures.fits c.requires.known c.requires.rising c.args.plan c.requires.budget
    (part_of_key c.in_ok-key.key) c.in_ok-key.ensures.part c.args.self.now
    c.in_ok-key.key.how c.in_ok-key.ensures.how c.in_ok-key.key.spent c.in_ok-key.ensures.complete
    (c.in_ok-own.ensures.absent (none_left c.in_ok-own.field-0 c.in_default.not-Some))
    (c.bound_result.ensures.absent (none_left c.bound_result.result c.in_default-bound_result.not-Some)) in
    omega (arith, met, c.in_ok-own-2.ensures.steps)
