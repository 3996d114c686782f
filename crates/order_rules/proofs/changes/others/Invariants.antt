use Rattle.std.proofs.Common.{◌≡◌, take}
use Rattle.order_rules.specs.Dividing.{others}
use Rattle.order_rules.proofs.changes.others.Given as goal

abbrev pub invariant-loop-line : goal.invariant-loop-line
invariant-loop-line l = l.rest.items ≡ others (take l.line-index l.lines) l.group
