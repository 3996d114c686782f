use Rattle.std.proofs.Common.{◌∙◌, sym, arith}
use Rattle.line_chains.proofs.Flags.{plain_are}
use Rattle.line_chains.proofs.corners.plain_corners.Goals as goal

pub returns-clause-value : goal.returns-clause-value
returns-clause-value c =
    let fit = c.nodes-n-end.ensures.fits in
    plain_are c.args.graph.now.rounds c.loop-n.corners (c.loop-n.invariant.each ∙ sym fit.round_each)
    (λ k h. c.loop-n.invariant.flags k (omega (arith, h, fit.round_each, c.nodes-n-end.ensures.count, c.loop-n-test.false)))
