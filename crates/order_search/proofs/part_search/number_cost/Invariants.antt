use Rattle.std.proofs.Common.{◌≡◌, ◌*◌, ◌≤◌, take}
use Rattle.std.specs.List.{sum_by}
use Rattle.order_search.specs.FoundParts.{cost_of_number}
use Rattle.order_search.proofs.part_search.number_cost.Given as goal

abbrev pub invariant-loop-n : goal.invariant-loop-n
invariant-loop-n l = (l.total ≡ sum_by (cost_of_number l.problem) (take l.n-index l.numbers)) × (l.total ≤ 256000 * l.n-index)
