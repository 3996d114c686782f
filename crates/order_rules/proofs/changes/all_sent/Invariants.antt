use Rattle.std.proofs.Common.{◌≡◌, ◌++◌, map, take, drop}
use Rattle.order_rules.specs.Dividing.{sent}
use Rattle.order_rules.proofs.changes.all_sent.Given as goal

abbrev pub invariant-loop-term : goal.invariant-loop-term
invariant-loop-term l = l.term-items ≡ map (sent l.seg l.new l.rest) (take l.term-index l.initial.term-items) ++ drop l.term-index l.initial.term-items
