use Rattle.std.proofs.Common.{◌≡◌, filter}
use Rattle.std.specs.List.{range_with_len}
use Rattle.feed_courses.specs.Flags.{flag_at}
use Rattle.feed_courses.proofs.flags.flagged.Given as goal

abbrev pub invariant-loop-number : goal.invariant-loop-number
invariant-loop-number l = l.numbers.items ≡ filter (flag_at l.flags) (range_with_len 0 l.number)
