use Rattle.std.proofs.lemmas.Result.{err_from_is_err_and}
use Rattle.kept_walks.proofs.Straight.{cause_stays, drawing_there}
use Rattle.kept_walks.proofs.drawn.drawn.Goals as goal

pub returns-clause-drawn : goal.returns-clause-drawn
returns-clause-drawn c =
    let drawing = c.in_ok-drawing.ensures in
    record {
      drawn = drawing_there c.args.graph.now c.args.plan
          c.in_ok-routes.routes.walks c.in_ok-drawing.drawing.walks c.in_ok-routes.ensures.drawing drawing.walks;
      legal = drawing.legal;
      each = drawing.each;
      near = drawing.near;
    }

pub returns-in_err-routes-clause-cause : goal.returns-in_err-routes-clause-cause
returns-in_err-routes-clause-cause c =
    let stop = c.in_err-routes.field-0.0 in
    let same = err_from_is_err_and c.from_residual.result c.from_residual.ensures.1 in
    rw (same.1, same.2) (cause_stays c.args.graph.now c.args.plan stop
    c.in_err-routes.ensures.cause)
