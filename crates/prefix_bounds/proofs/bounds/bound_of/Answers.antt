use Rattle.prefix_bounds.proofs.Shown.{bound_shown}
use Rattle.prefix_bounds.proofs.bounds.bound_of.Goals as goal

pub returns-clause-shown : goal.returns-clause-shown
returns-clause-shown c =
    bound_shown c.args.problem.now c.args.part.now c.args.prefix.now.placed c.in_ok-bounds.bounds c.bound.result c.in_ok-bounds.ensures.problem c.requires.rising
    c.in_ok-bounds.ensures.segs c.in_ok-bounds.ensures.part c.in_ok-bounds.ensures.terms c.in_ok-bounds.ensures.placed c.bound.ensures.bound
