use Rattle.std.proofs.Common.{◌≡◌, ℕ, length, map, take}
use Rattle.feed_courses.specs.Flags.{flag_at}
use Rattle.feed_courses.specs.Shown.{has_pattern}
use Rattle.feed_courses.proofs.shown.lines_with.Given as goal

abbrev pub invariant-loop-pattern : goal.invariant-loop-pattern
invariant-loop-pattern l = record {
  count : length l.flags.items ≡ l.count;
  flagged : (k : ℕ) → flag_at l.flags.items k ≡ has_pattern (map (λ pattern. pattern.now) (take l.pattern-index l.patterns)) k;
}
