use Rattle.std.proofs.Common.{◌≡◌, sym, ◌∙◌, subst, true, List}
use Rattle.octi_grid.specs.declared.point.GridPoint.{GridPoint}
use Rattle.grid_board.specs.Boards.{is_inside}
use Rattle.grid_board.proofs.Ways.{can_step}
use Rattle.walk_search.specs.Asking.{question}
use Rattle.walk_search.specs.Enclosed.{AreInside}
use Rattle.walk_search.proofs.Enclosing.{inside_more, leads_inside}
use Rattle.walk_search.proofs.enclosed.add_step.Goals as goal

pub step-next-requires : goal.step-next-requires
step-next-requires c = can_step (question c.args.asked.now).board.bounds c.args.p c.args.asked.now.asked.asked.board.in_range c.requires.p

pub returns-clause-inside : goal.returns-clause-inside
returns-clause-inside c =
    let q = question c.args.asked.now in
    subst (λ (points : List GridPoint). AreInside q points) (sym c.in_ok-push.ensures.items)
    (inside_more q c.args.points.now.items c.step-next.result c.requires.inside
    (subst (λ (p : GridPoint). is_inside q.board p ≡ true) (sym c.step-next.ensures) (leads_inside q c.args.p c.args.dir (sym c.leads_on.ensures ∙ c.if-not-leads_on.false))))
