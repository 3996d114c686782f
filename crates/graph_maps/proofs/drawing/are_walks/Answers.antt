use Rattle.std.proofs.Common.{All, subst, arith}
use Rattle.std.proofs.lemmas.List.{take_all}
use Rattle.std.proofs.lemmas.List.Elements.{All-more}
use Rattle.octi_grid.specs.Walks.{IsWalk}
use Rattle.graph_maps.proofs.drawing.are_walks.Goals as goal

pub loop-walk-preserved : goal.loop-walk-preserved
loop-walk-preserved c = All-more IsWalk c.args.walks.now c.loop-walk.walk-index c.walk-item.result c.loop-walk-test.true
    c.loop-walk.invariant (subst IsWalk c.walk-item.is c.runs-runs.ensures.walk)

pub returns : goal.returns
returns c = subst (All IsWalk) (take_all c.loop-walk.walk-index c.args.walks.now
    (omega (arith, c.loop-walk-test.false))) c.loop-walk.invariant
