use Rattle.std.proofs.Common.{◌≡◌, refl, sym, ◌∙◌, ap, subst, ℕ, ◌+◌, [], ◌∷◌, ◌++◌, get_or, drop, map}
use Rattle.octi_grid.specs.declared.dir.Dir.{Dir}
use Rattle.octi_grid.specs.declared.point.GridPoint.{GridPoint}
use Rattle.octi_grid.specs.Ways.{IsWithin, step_from}
use Rattle.octi_grid.specs.Walks.{PlainWalk, end_point}
use Rattle.walk_search.specs.Asking.{question}
use Rattle.walk_search.specs.Moves.{direction}
use Rattle.walk_search.specs.Walked.{AreSteps}
use Rattle.grid_board.proofs.Ways.{within_board}
use Rattle.walk_search.proofs.Walking.{after_last, steps_left, walk_left}
use Rattle.walk_search.proofs.walk.walk_from.Goals as goal

pub of_step-requires-clause-start : goal.of_step-requires-clause-start
of_step-requires-clause-start c = within_board (question c.args.asked.now).board.bounds c.args.start c.args.asked.now.asked.asked.board.in_range c.requires.start

pub of_step-requires-clause-end : goal.of_step-requires-clause-end
of_step-requires-clause-end c =
    subst (λ (d : Dir). IsWithin (step_from c.args.start d)) (sym c.direction.ensures) (within_board (question c.args.asked.now).board.bounds (step_from c.args.start (direction c.args.first)) c.args.asked.now.asked.asked.board.in_range c.requires.steps.1)

pub loop-label-init : goal.loop-label-init
loop-label-init c =
    let q = question c.args.asked.now in
    record {
      whole = ap (λ (w : PlainWalk). (let v : PlainWalk = record { start = w.start; steps = w.steps ++ map direction c.args.rest.now } in v)) c.in_ok-walk.ensures
          ∙ ap (λ (d : Dir). (let v : PlainWalk = record { start = c.args.start; steps = d ∷ map direction c.args.rest.now } in v)) c.direction.ensures;
      steps =
          subst (λ (w : PlainWalk). AreSteps q (end_point w) c.args.rest.now) (sym c.in_ok-walk.ensures)
          (subst (λ (d : Dir). AreSteps q (step_from c.args.start d) c.args.rest.now) (sym c.direction.ensures) c.requires.steps.2);
    }

pub direction-requires-in-loop-label : goal.direction-requires-in-loop-label
direction-requires-in-loop-label c =
    (steps_left (question c.args.asked.now) (end_point c.loop-label.walk) c.args.rest.now c.loop-label.label-index 0 c.loop-label-test.true c.loop-label.invariant.steps).0

pub push-requires : goal.push-requires
push-requires c =
    let q = question c.args.asked.now in
    let left = steps_left q (end_point c.loop-label.walk) c.args.rest.now c.loop-label.label-index 0 c.loop-label-test.true c.loop-label.invariant.steps in
    subst (λ (d : Dir). IsWithin (step_from (end_point c.loop-label.walk) d)) (sym c.direction-in-loop-label.ensures)
    (within_board (question c.args.asked.now).board.bounds (step_from (end_point c.loop-label.walk) (direction (get_or c.args.rest.now c.loop-label.label-index 0))) c.args.asked.now.asked.asked.board.in_range left.1)

pub loop-label-preserved : goal.loop-label-preserved
loop-label-preserved c =
    let q = question c.args.asked.now in
    let label : ℕ = get_or c.args.rest.now c.loop-label.label-index 0 in
    let left = steps_left q (end_point c.loop-label.walk) c.args.rest.now c.loop-label.label-index 0 c.loop-label-test.true c.loop-label.invariant.steps in
    let pushed : c.push.new.self ≡ record { start = c.loop-label.walk.start; steps = c.loop-label.walk.steps ++ direction label ∷ [] } =
    c.in_ok-push.ensures.ok ∙ ap (λ (d : Dir). (let v : PlainWalk = record { start = c.loop-label.walk.start; steps = c.loop-label.walk.steps ++ d ∷ [] } in v)) c.direction-in-loop-label.ensures in
    record {
      whole =
          subst (λ (w : PlainWalk). (let v : PlainWalk = record { start = w.start; steps = w.steps ++ map direction (drop (c.loop-label.label-index + 1) c.args.rest.now) } in v) ≡ (let v : PlainWalk = record { start = c.args.start; steps = map direction (c.args.first ∷ c.args.rest.now) } in v)) (sym pushed)
          (walk_left q c.loop-label.walk.start c.loop-label.walk.steps (c.loop-label.walk.steps ++ direction label ∷ []) c.args.rest.now c.loop-label.label-index 0
          (record { start = c.args.start; steps = map direction (c.args.first ∷ c.args.rest.now) }) c.loop-label-test.true refl c.loop-label.invariant.whole);
      steps =
          subst (λ (w : PlainWalk). AreSteps q (end_point w) (drop (c.loop-label.label-index + 1) c.args.rest.now)) (sym pushed)
          (subst (λ (p : GridPoint). AreSteps q p (drop (c.loop-label.label-index + 1) c.args.rest.now)) (sym (after_last c.loop-label.walk.start c.loop-label.walk.steps (direction label))) left.2);
    }
