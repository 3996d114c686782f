use Rattle.kept_trees.proofs.Composing.{incumbent_within}
use Rattle.kept_trees.proofs.ascent.is_shown.Goals as goal

pub shows-requires : goal.shows-requires
shows-requires c = incumbent_within c.args.search.now.part.problem.now c.args.now.now.incumbent
    c.requires.search.part.fits c.requires.now.incumbent
