use Rattle.std.proofs.Common.{◌≡◌}
use Rattle.order_model.specs.Prefixes.{IsPrefixOf}
use Rattle.order_check.specs.Asking.{question_of, HasTable}
use Rattle.order_check.specs.Counting.{IsTally}
use Rattle.order_check.proofs.Walks.{FailsFrom}
use Rattle.order_check.proofs.walk.+walk.Given as goal

abbrev pub invariant-walk_split-loop-child : goal.invariant-walk_split-loop-child
invariant-walk_split-loop-child l = IsPrefixOf l.asked.problem.now.segs l.prefix × (l.prefix.placed ≡ l.fn.prefix.placed) × (l.way.items ≡ l.fn.way.items)
    × FailsFrom (question_of l.asked) l.fn.prefix.placed l.seg l.children l.child-index × HasTable l.asked l.costs
    × IsTally l.asked l.prefix.placed l.sums l.costs
