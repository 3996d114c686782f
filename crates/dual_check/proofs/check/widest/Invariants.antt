use Rattle.std.proofs.Common.{◌≡◌, ◌≤◌, length, take}
use Rattle.std.specs.Prelude.{nat_le}
use Rattle.std.specs.List.{All}
use Rattle.map_base.specs.declared.ids.SegId.{SegId}
use Rattle.order_model.specs.Problems.{lines_on}
use Rattle.dual_bound.specs.Accepting.{is_narrow}
use Rattle.dual_check.proofs.check.widest.Given as goal

abbrev pub invariant-loop-s : goal.invariant-loop-s
invariant-loop-s l = record {
  most : All (λ (s : SegId). length (lines_on l.problem.segs s) ≤ l.width) (take l.s-index l.part);
  narrow : nat_le l.width 16 ≡ is_narrow l.problem.segs (take l.s-index l.part);
}
