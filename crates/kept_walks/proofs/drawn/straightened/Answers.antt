use Rattle.std.proofs.Common.{◌∙◌, ap, ℕ, arith}
use Rattle.kept_walks.specs.Straightening as straightening
use Rattle.kept_walks.proofs.Promised.{farther}
use Rattle.kept_walks.proofs.Straight.{not_straightened}
use Rattle.kept_walks.proofs.drawn.straightened.Goals as goal

pub returns-then-straight-eq0-clause-walks : goal.returns-then-straight-eq0-clause-walks
returns-then-straight-eq0-clause-walks c =
    not_straightened c.args.graph.now c.args.cell c.args.straight c.args.routes.walks c.if-straight-eq0.true

pub returns-then-straight-eq0-clause-near : goal.returns-then-straight-eq0-clause-near
returns-then-straight-eq0-clause-near c = farther 1800 1820 (omega arith) c.args.routes.walks c.requires.near

pub returns-clause-walks : goal.returns-clause-walks
returns-clause-walks c =
    c.in_ok-searched.ensures.drawing
    ∙ ap (λ (side : ℕ). (straightening.straightened c.args.graph.now side c.args.straight c.args.routes.walks).walks)
    c.side_over-side.ensures.value

pub returns-clause-near : goal.returns-clause-near
returns-clause-near c = c.in_ok-searched.ensures.near 1800 c.requires.near
