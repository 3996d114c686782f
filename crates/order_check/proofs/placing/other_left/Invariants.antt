use Rattle.std.proofs.Common.{◌≡◌, drop}
use Rattle.order_model.specs.Problems.{lines_on}
use Rattle.order_check.specs.Placings.{other_left}
use Rattle.order_check.proofs.placing.other_left.Given as goal

abbrev pub invariant-loop-other : goal.invariant-loop-other
invariant-loop-other l = other_left (lines_on l.prefix.placed l.seg) l.line (drop l.other-index l.lines) ≡ other_left (lines_on l.prefix.placed l.seg) l.line l.lines
