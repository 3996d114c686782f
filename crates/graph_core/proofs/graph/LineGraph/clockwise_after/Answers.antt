use Rattle.std.proofs.Common.{[], slice_index_or, ◌≡◌}
use Rattle.std.proofs.lemmas.Option.{get_or_from_slice_get}
use Rattle.graph_core.proofs.graph.LineGraph.clockwise_after.Goals as goal

pub returns : goal.returns
returns c =
    let e : slice_index_or c.args.self.now.rounds c.args.n.0 [] ≡ c.round.result.now = get_or_from_slice_get c.args.self.now.rounds c.args.n.0 c.round.result.now [] c.round.ensures in
    rw e c.after.ensures
