use Rattle.std.proofs.Common.{ℕ, ◌<◌, length}
use Rattle.net_paths.specs.Searching.{IsSearched, known_at}
use Rattle.net_paths.proofs.Walked.{IsWalking, cost_or_none}
use Rattle.net_paths.proofs.walk.walk.Given as goal

abbrev pub invariant-loop-next : goal.invariant-loop-next
invariant-loop-next l = record {
  in_range : l.at < length l.net.points;
  walking : (to : ℕ) (s : IsSearched l.corridor l.net l.from to l.known) → IsWalking l.corridor l.net l.known l.from to s.cost l.path.items l.at;
}

abbrev pub decreases-loop-next : goal.decreases-loop-next
decreases-loop-next l = cost_or_none (known_at l.known l.at)
