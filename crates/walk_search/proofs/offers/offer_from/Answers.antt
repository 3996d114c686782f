use Rattle.std.proofs.Common.{sym, ◌∙◌, ap, subst}
use Rattle.std.proofs.lemmas.Result.{on_ok_weaker}
use Rattle.octi_grid.specs.declared.point.GridPoint.{GridPoint}
use Rattle.octi_grid.specs.Ways.{CanStep, step_from}
use Rattle.walk_search.specs.Asking.{question}
use Rattle.grid_board.proofs.Ways.{can_step}
use Rattle.walk_search.proofs.Offered.{can_step_beside, offered_step}
use Rattle.walk_search.proofs.offers.offer_from.Goals as goal

pub step-back-requires : goal.step-back-requires
step-back-requires c = can_step (question c.args.asked.now).board.bounds c.args.spot.at c.args.asked.now.asked.asked.board.in_range c.requires.spot.inside

pub offer_step-requires-clause-p : goal.offer_step-requires-clause-p
offer_step-requires-clause-p c =
    subst (λ (p : GridPoint). CanStep p) (sym c.step-back.ensures) (can_step_beside (question c.args.asked.now).board.bounds c.args.spot.at c.reverse.result c.args.asked.now.asked.asked.board.in_range c.requires.spot.inside)

pub returns-clause-lowered : goal.returns-clause-lowered
returns-clause-lowered c =
    on_ok_weaker c.offer_step.result
    (λ h. offered_step (question c.args.asked.now) c.args.spot c.args.cost c.step-back.result c.direction-dir.result c.args.known.now c.offer_step.new.known c.args.queue.now c.offer_step.new.queue c.if-spot-eq-START.false c.direction-dir.ensures
    (c.step-back.ensures ∙ ap (step_from c.args.spot.at) c.reverse.ensures) h)
    c.offer_step.ensures.lowered
