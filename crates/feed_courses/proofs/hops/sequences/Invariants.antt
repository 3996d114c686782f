use Rattle.std.proofs.Common.{◌≡◌, map}
use Rattle.feed_courses.proofs.hops.sequences.Given as goal

abbrev pub invariant-loop-list : goal.invariant-loop-list
invariant-loop-list l = l.hops.items ≡ map (λ list. list.items) l.yielded
