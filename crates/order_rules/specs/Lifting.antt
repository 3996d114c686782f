-- Orders of a problem from orders of the problem that rules make of it.
use Rattle.std.specs.Prelude.{◌-◌, List, [], ◌∷◌, ◌++◌, length, take, reverse, if◌then◌else◌, slice_set, slice_index_or}
use Rattle.map_base.specs.declared.ids.LineId.{LineId}
use Rattle.order_values.specs.declared.rule.Rule.{Rule}
use Rattle.order_values.specs.declared.rule.Rule.TheVariants.{Merge, Divide}
use Rattle.order_model.specs.Problems.{lines_on}

-- after a merge `from` has the order of `into`, or with `flip` its reverse. After a division the segment has its own
-- order and then that of the last segment, which goes
abbrev pub lifted : Rule → List (List LineId) → List (List LineId)
lifted (Merge into from flip) orders = slice_set orders from.0 (if flip then reverse (lines_on orders into) else lines_on orders into)
lifted (Divide seg first) orders =
    let last = length orders - 1 in
    slice_set (take last orders) seg.0 (lines_on orders seg ++ slice_index_or orders last [])

-- the same for rules one by one, the last of them first
abbrev pub lifted_all : List Rule → List (List LineId) → List (List LineId)
lifted_all [] orders = orders
lifted_all (r ∷ rules) orders = lifted r (lifted_all rules orders)
