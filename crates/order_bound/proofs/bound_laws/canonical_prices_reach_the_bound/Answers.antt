use Rattle.order_model.specs.PartTerms.{part_terms}
use Rattle.order_bound.proofs.CanonicalValue.{canonical_prices_reach}
use Rattle.order_bound.proofs.Parts.{part_of_problem, part_numbered}
use Rattle.order_bound.proofs.bound_laws.canonical_prices_reach_the_bound.Goals as goal

pub returns : goal.returns
returns c segs placed part terms rising known part_rises =
    canonical_prices_reach segs placed part (part_terms terms part) (part_of_problem segs terms part rising known part_rises) (part_numbered terms part)
