use Rattle.std.proofs.Common.{sym, subst, ℕ, List, ◌<◌, get_or, length, All}
use Rattle.way_network.specs.declared.edges.UsedEdge.{UsedEdge}
use Rattle.way_network.specs.Rows.{LeadAway}
use Rattle.way_network.proofs.rounds.rounds_of.Goals as goal

pub round_of-requires-clause-lead_away : goal.round_of-requires-clause-lead_away
round_of-requires-clause-lead_away c =
    let node : ℕ = get_or c.points-node-items.result.now c.loop-node.node-index 0 in
    let nodes : All (λ p. p < length c.args.table.now) c.points-node-items.result.now =
    subst (λ (ps : List ℕ). All (λ p. p < length c.args.table.now) ps) (sym c.points-node-items.ensures) c.requires.nodes in
    let known : node < length c.args.table.now = nodes c.loop-node.node-index 0 c.loop-node-test.true in
    subst (λ (row : List UsedEdge). LeadAway c.args.points.now node row) (sym c.row.ensures.value) (c.requires.edges.lead_away node known)
