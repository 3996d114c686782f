use Rattle.std.proofs.Common.{◌≡◌, ℕ, length, map, take}
use Rattle.std.specs.List.{list_any}
use Rattle.feed_courses.specs.Flags.{flag_at}
use Rattle.feed_courses.specs.Shown.{serves}
use Rattle.feed_courses.proofs.shown.stations_in.Given as goal

abbrev pub invariant-loop-pattern : goal.invariant-loop-pattern
invariant-loop-pattern l = record {
  count : length l.flags.items ≡ l.count;
  flagged : (k : ℕ) → flag_at l.flags.items k ≡ list_any (serves k) (map (λ pattern. pattern.now) (take l.pattern-index l.patterns));
}
