use Rattle.std.proofs.Common.{◌≡◌, ◌++◌, map, take, drop}
use Rattle.order_rules.specs.Merging.{moved}
use Rattle.order_rules.proofs.changes.all_moved.Given as goal

abbrev pub invariant-loop-term : goal.invariant-loop-term
invariant-loop-term l = l.term-items ≡ map (moved l.into l.from l.flip) (take l.term-index l.initial.term-items) ++ drop l.term-index l.initial.term-items
