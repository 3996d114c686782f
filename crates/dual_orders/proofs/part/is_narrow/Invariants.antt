use Rattle.std.proofs.Common.{◌≡◌, true, List, length, take}
use Rattle.std.specs.Prelude.{nat_le}
use Rattle.std.specs.List.{list_all}
use Rattle.map_base.specs.declared.ids.LineId.{LineId}
use Rattle.dual_orders.proofs.part.is_narrow.Given as goal

abbrev pub invariant-loop-lines : goal.invariant-loop-lines
invariant-loop-lines l = list_all (λ (r : List LineId). nat_le (length r) 16) (take l.lines-index l.problem.segs) ≡ true
