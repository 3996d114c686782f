use Rattle.std.proofs.Common.{◌≡◌, true, sym, subst}
use Rattle.drawing_search.proofs.Common.{is_near, GridPoint}
use Rattle.drawing_search.proofs.Takable.{stands_near}
use Rattle.drawing_search.proofs.gains.Field.step_gain.Goals as goal

pub apart_weight-requires-clause-near : goal.apart_weight-requires-clause-near
apart_weight-requires-clause-near c =
    subst (λ (p : GridPoint). is_near 2000 p ≡ true) (sym c.point.ensures) (stands_near c.args.self.graph.now c.args.sketch.now c.requires.legal c.args.step.to.0 (c.requires.inner c.if-not-is_inner.false))
