use Rattle.std.proofs.Common.{length, arith}
use Rattle.kept_trees.proofs.OwnProblems.{few_segments}
use Rattle.kept_trees.proofs.part_key.part_key.Goals as goal

pub own_terms-requires-clause-few : goal.own_terms-requires-clause-few
own_terms-requires-clause-few c =
    omega (arith, few_segments (length c.args.problem.now.segs) c.args.part.now c.requires.known c.requires.rising, c.segs.ensures.fits.few_choices)
