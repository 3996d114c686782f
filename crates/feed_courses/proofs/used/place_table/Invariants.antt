use Rattle.std.proofs.Common.{◌≡◌, ℕ, length, get_or, drop}
use Rattle.feed_courses.proofs.PlaceTables.{place_after}
use Rattle.feed_courses.proofs.used.place_table.Given as goal

abbrev pub invariant-loop-place : goal.invariant-loop-place
invariant-loop-place l = record {
  count : length l.table.items ≡ l.count;
  places : (n : ℕ) → get_or l.table.items n 0 ≡ place_after (drop l.place l.numbers) l.place n;
}
