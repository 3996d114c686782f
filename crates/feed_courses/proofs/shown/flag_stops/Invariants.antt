use Rattle.std.proofs.Common.{◌≡◌, ℕ, ◌||◌, ◌==◌, length, take}
use Rattle.std.specs.List.{list_any}
use Rattle.map_base.specs.declared.ids.StationId.{StationId}
use Rattle.feed_courses.specs.Flags.{flag_at}
use Rattle.feed_courses.proofs.shown.flag_stops.Given as goal

abbrev pub invariant-loop-stop : goal.invariant-loop-stop
invariant-loop-stop l = record {
  count : length l.flags ≡ length l.initial.flags;
  flagged : (k : ℕ) → flag_at l.flags k ≡ (flag_at l.initial.flags k || list_any (λ (s : StationId). s.0 == k) (take l.stop-index l.stops));
}
