use Rattle.std.proofs.Common.{sym, subst, List}
use Rattle.way_network.specs.declared.edges.UsedEdge.{UsedEdge}
use Rattle.way_network.specs.Rows.{LeadAway}
use Rattle.way_network.proofs.segments.push_rising.Goals as goal

pub around-requires-clause-lead_away : goal.around-requires-clause-lead_away
around-requires-clause-lead_away c =
    subst (λ (row : List UsedEdge). LeadAway c.args.points.now c.args.node row) (sym c.row.ensures.value) (c.requires.edges.lead_away c.args.node c.requires.node)
