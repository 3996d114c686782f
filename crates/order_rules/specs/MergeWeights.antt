-- The weights by which it is decided whether a merge applies, as they are added up.
use Rattle.std.specs.Prelude.{◌≡◌, ◌+◌, List, if◌then◌else◌}
use Rattle.map_base.specs.declared.ids.SegId.{SegId}
use Rattle.map_base.specs.declared.ids.LineId.{LineId}
use Rattle.order_model.specs.declared.term.Term.{Term}
use Rattle.order_model.specs.Costs.{weight_of}
use Rattle.order_model.specs.Parts.{is_between}
use Rattle.order_rules.specs.PairWeights.{is_apart, is_on, is_of_lines}
use Rattle.order_rules.specs.declared.merges.MergeWeights.{MergeWeights}
use Rattle.order_rules.specs.Merging.{link_weight, apart_weight, weight_beside, aparts_beside}

-- the weights with that of one more term of the two lines
abbrev pub with_term : MergeWeights → SegId → SegId → Term → MergeWeights
with_term weights e f t =
    if is_between t e.0 f.0
    then (if is_apart t then record weights { aparts = weights.aparts + weight_of t } else record weights { links = weights.links + weight_of t })
    else (if is_on f t
    then (if is_apart t then record weights { aparts_beside = weights.aparts_beside + weight_of t } else record weights { beside = weights.beside + weight_of t })
    else weights)

-- the weights with that of one more term, if it is of the two lines
abbrev pub with_of : MergeWeights → SegId → SegId → LineId → LineId → Term → MergeWeights
with_of weights e f a b t = if is_of_lines a b t then with_term weights e f t else weights

-- the weights of the terms of two lines
pub record HaveWeights (e f : SegId) (terms : List Term) (a b : LineId) (weights : MergeWeights) : Type 0 where
  pub links : weights.links ≡ link_weight e f terms a b
  pub aparts : weights.aparts ≡ apart_weight e f terms a b
  pub beside : weights.beside ≡ weight_beside e f terms a b
  pub aparts_beside : weights.aparts_beside ≡ aparts_beside e f terms a b
