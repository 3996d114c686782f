use Rattle.dual_orders.proofs.Renewing.{kept_order}
use Rattle.dual_orders.specs.SettledPairs.{pairs_of}
use Rattle.dual_orders.proofs.answers.renew.Goals as goal

pub returns-then-are_same_on-clause-orders : goal.returns-then-are_same_on-clause-orders
returns-then-are_same_on-clause-orders c =
    kept_order c.args.part.now.problem.now (pairs_of c.args.settled.now) c.args.earlier.now c.args.prices.now c.args.s
    c.args.orders.now c.requires.part.fits.terms (c.requires.known c.if-known.true)
    (c.are_same_on.ensures c.if-are_same_on.true)
