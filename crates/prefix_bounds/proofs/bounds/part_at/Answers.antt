use Rattle.std.proofs.Common.{ap, arith, length}
use Rattle.order_model.specs.PartTerms.{part_terms}
use Rattle.prefix_bounds.proofs.Filled.{filled_all}
use Rattle.prefix_bounds.proofs.bounds.part_at.Goals as goal

pub returns-clause-placed : goal.returns-clause-placed
returns-clause-placed c =
    filled_all c.loop-seg.seg c.args.problem.now.segs c.args.part.now (part_terms c.args.problem.now.terms c.args.part.now) c.args.prefix.now.placed c.loop-seg.bounds c.loop-seg.invariant
    (omega (arith, c.loop-seg-test.false, ap length c.segs-seg-end.ensures.lists)) c.requires.fits.each
