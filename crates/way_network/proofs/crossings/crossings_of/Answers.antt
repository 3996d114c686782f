use Rattle.std.proofs.Common.{arith}
use Rattle.way_network.proofs.JoinLemmas.{passage_more}
use Rattle.way_network.proofs.crossings.crossings_of.Goals as goal

pub loop-x-preserved : goal.loop-x-preserved
loop-x-preserved c =
    passage_more c.args.segments.now c.args.nodes.now.nodes c.args.passages.now c.loop-x.x-index _ c.loop-x.crossings.items c.put_passage.new.crossings.items (omega (arith, c.loop-x-test.true)) c.loop-x.invariant
    c.in_ok-put_passage.ensures
