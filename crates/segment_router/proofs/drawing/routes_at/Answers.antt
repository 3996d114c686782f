use Rattle.std.proofs.Common.{sym, subst}
use Rattle.start_positions.specs.Homes.{IsPlacing}
use Rattle.start_positions.specs.Spreads.{spread_offsets}
use Rattle.segment_router.proofs.AttemptLemmas.{one_offset_each}
use Rattle.start_positions.proofs.HomeFacts.{placing_fits}
use Rattle.segment_router.proofs.drawing.routes_at.Goals as goal

pub routes_from-requires-clause-placing : goal.routes_from-requires-clause-placing
routes_from-requires-clause-placing c =
    let graph = c.args.graph.now in
    let a = c.args.attempt in
    subst (IsPlacing graph) (sym c.in_ok-placing.ensures)
    (placing_fits graph c.args.cell a.fineness (spread_offsets graph.places a.percent) c.requires.graph c.requires.attempt.fine c.requires.cell (one_offset_each graph a.percent c.requires.graph))
