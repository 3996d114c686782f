use Rattle.std.proofs.Common.{◌≡◌, drop}
use Rattle.std.specs.List.{list_all}
use Rattle.order_model.specs.Problems.{lines_on}
use Rattle.order_model.specs.Prefixes.{is_left}
use Rattle.order_check.specs.Children.{child_lines}
use Rattle.order_check.proofs.node.are_all_left.Given as goal

abbrev pub invariant-loop-child : goal.invariant-loop-child
invariant-loop-child l =
    list_all (is_left (lines_on l.problem.segs l.s) (lines_on l.prefix.placed l.s)) (child_lines (drop l.child-index l.children))
    ≡ list_all (is_left (lines_on l.problem.segs l.s) (lines_on l.prefix.placed l.s)) (child_lines l.children)
