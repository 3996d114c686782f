use Rattle.order_model.proofs.OrderLemmas.{readable_terms}
use Rattle.order_model.proofs.costs.cost.Goals as goal

pub total_cost-requires-clause-terms : goal.total_cost-requires-clause-terms
total_cost-requires-clause-terms c =
    rw (c.terms.ensures.list, c.as_slice.ensures)
    (readable_terms c.args.problem.now.segs c.args.orders.now.lists c.args.problem.now.terms c.requires c.terms.ensures.fits.terms)
