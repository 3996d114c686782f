-- The children of a node: lines that may be placed next, each with the bound of the prefix in which it is.
use Rattle.std.specs.Prelude.{Bool, List, [], ◌∷◌, map, if◌then◌else◌}
use Rattle.std.specs.declared.cmp.Ordering.{Ordering}
use Rattle.std.specs.Ordering.{nat_cmp, ordering_then}
use Rattle.map_base.specs.declared.ids.LineId.{LineId}
use Rattle.sorted_lists.specs.Sorting as sorted
use Rattle.order_search.specs.declared.child.Child.{Child}

-- the order of children: by bound, then by line
abbrev pub child_order : Child → Child → Ordering
child_order x y = ordering_then (nat_cmp x.bound y.bound) (nat_cmp x.line.0 y.line.0)

-- children in their order
abbrev pub in_order : List Child → List Child
in_order children = sorted.in_order child_order children

-- the lines of children
abbrev pub lines_in : List Child → List LineId
lines_in children = map (λ (x : Child). x.line) children

-- the child, where there is one
abbrev pub child_if : Bool → Child → List Child
child_if there x = if there then x ∷ [] else []
