use Rattle.std.proofs.Common.{◌≡◌, ◌<◌, ◌∙◌, ap, length, arith}
use Rattle.way_network.specs.Nodes.{NodeTable}
use Rattle.way_network.specs.Uses.{has_number}
use Rattle.way_network.proofs.NodeLemmas.{flag_kept}
use Rattle.way_network.proofs.nodes.Nodes.is_node.Goals as goal

pub returns : goal.returns
returns c =
    let kept = c.self.inside in
    let count : length kept.flags.items ≡ c.args.self.now.points = ap (λ (t : NodeTable). t.points) c.self.view_is in
    let below : c.args.p < length kept.flags.items = omega (arith, c.requires, count) in
    c.index.ensures ∙ flag_kept (length kept.flags.items) c.args.p kept.points.items kept.flags.items kept.places.items c.index.result.now c.self.invariant below
    ∙ ap (λ (t : NodeTable). has_number t.nodes c.args.p) c.self.view_is
