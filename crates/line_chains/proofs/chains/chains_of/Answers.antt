use Rattle.std.proofs.Common.{◌<◌, length, arith}
use Rattle.line_chains.specs.Chains.{chains_of}
use Rattle.line_chains.proofs.Listing.{chains_more}
use Rattle.line_chains.proofs.chains.chains_of.Goals as goal

pub loop-n-preserved : goal.loop-n-preserved
loop-n-preserved c =
    let g = c.args.graph.now in
    let below : c.loop-n.n < length g.kinds = omega (arith, c.nodes-n-end.ensures.count, c.loop-n-test.true) in
    chains_more g c.args.corners.now (length g.kinds) c.loop-n.n c.loop-n.chains.items c.push_chains_at.new.chains.items (chains_of g c.args.corners.now) below c.in_ok-push_chains_at.ensures c.loop-n.invariant
