use Rattle.std.proofs.Common.{◌≡◌, map, take}
use Rattle.order_proof.specs.Plain.{plain_part}
use Rattle.order_check.specs.Verdict.{targets}
use Rattle.order_check.proofs.total.target_sum.Given as goal

abbrev pub invariant-loop-part : goal.invariant-loop-part
invariant-loop-part l = l.sum ≡ targets (map plain_part (take l.part-index l.parts))
