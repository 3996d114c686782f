use Rattle.std.proofs.Common.{◌≡◌, ◌∙◌}
use Rattle.std.proofs.lemmas.Result.{IfOk-weaker}
use Rattle.octi_grid.specs.Walks.{PlainWalk}
use Rattle.walk_search.specs.Asking.{question}
use Rattle.walk_search.specs.Walked.{walk_of_labels}
use Rattle.walk_search.proofs.Walking.{path_labels, seat_of_labels, steps_of_labels, walk_of_parts}
use Rattle.walk_search.proofs.walk.walk_by.Goals as goal

pub start-start-requires : goal.start-start-requires
start-start-requires c =
    let q = question c.args.asked.now in
    seat_of_labels q c.args.labels.now (path_labels q c.args.asked.now.asked.asked c.args.labels.now c.requires.path.0 c.requires.path.1)

pub walk_from-requires-clause-steps : goal.walk_from-requires-clause-steps
walk_from-requires-clause-steps c =
    let q = question c.args.asked.now in
    steps_of_labels q c.args.labels.now (path_labels q c.args.asked.now.asked.asked c.args.labels.now c.requires.path.0 c.requires.path.1) c.start-start.result c.start-start.ensures.value

pub returns : goal.returns
returns c =
    let q = question c.args.asked.now in
    IfOk-weaker c.walk_from.result _ (λ (w : PlainWalk). w ≡ walk_of_labels q c.args.labels.now)
    (λ w e. e ∙ walk_of_parts q c.args.labels.now (path_labels q c.args.asked.now.asked.asked c.args.labels.now c.requires.path.0 c.requires.path.1) c.start-start.result c.start-start.ensures.value) c.walk_from.ensures
