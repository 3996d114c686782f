use Rattle.order_model.specs.PartTerms.{part_terms}
use Rattle.order_bound.proofs.Bounding.{bound_below}
use Rattle.order_bound.proofs.Parts.{part_of_problem}
use Rattle.order_bound.proofs.bound_laws.completions_cost_the_bound.Goals as goal

pub returns : goal.returns
returns c segs placed orders part terms rising known part_rises are done =
    bound_below segs placed orders part (part_terms terms part) (part_of_problem segs terms part rising known part_rises) are done
