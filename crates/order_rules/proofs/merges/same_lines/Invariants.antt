use Rattle.std.proofs.Common.{◌≡◌, drop}
use Rattle.order_rules.specs.Merging.{same_lines}
use Rattle.order_rules.proofs.merges.same_lines.Given as goal

abbrev pub invariant-loop-i : goal.invariant-loop-i
invariant-loop-i l = same_lines l.lines l.others ≡ same_lines (drop l.i l.lines) (drop l.i l.others)
