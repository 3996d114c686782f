use Rattle.prefix_bounds.proofs.Shown.{prices_shown}
use Rattle.prefix_bounds.proofs.bounds.prices_for.Goals as goal

pub returns-clause-reach : goal.returns-clause-reach
returns-clause-reach c =
    prices_shown c.args.problem.now c.args.part.now c.args.prefix.now.placed c.in_ok-bounds.bounds c.in_ok-prices.field-0 c.in_ok-bounds.ensures.problem c.requires.rising
    c.in_ok-bounds.ensures.segs c.in_ok-bounds.ensures.part c.in_ok-bounds.ensures.terms c.in_ok-bounds.ensures.placed c.in_ok-prices.ensures.prices
