use Rattle.std.proofs.Common.{◌≡◌, ◌+◌, take}
use Rattle.order_search.specs.Finding.{places_of}
use Rattle.order_search.proofs.part_search.is_deep.Given as goal

abbrev pub invariant-loop-s : goal.invariant-loop-s
invariant-loop-s l = l.left + places_of l.problem.segs (take l.s-index l.part) ≡ 2048
