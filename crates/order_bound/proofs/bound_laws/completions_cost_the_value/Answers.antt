use Rattle.order_model.specs.PartTerms.{part_terms}
use Rattle.order_bound.proofs.Bounding.{value_bounds}
use Rattle.order_bound.proofs.Parts.{part_of_problem, part_numbered}
use Rattle.order_bound.proofs.bound_laws.completions_cost_the_value.Goals as goal

pub returns : goal.returns
returns c segs placed orders part terms prices v rising known part_rises are done is =
    value_bounds segs placed orders part (part_terms terms part) prices v (part_of_problem segs terms part rising known part_rises) (part_numbered terms part) is are done
