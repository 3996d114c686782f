use Rattle.std.proofs.Common.{◌+◌, ◌<◌}
use Rattle.state_search.specs.Searching.{known_at}
use Rattle.walk_search.specs.Asking.{question}
use Rattle.walk_search.specs.Spots.{spots_of}
use Rattle.walk_search.proofs.Walking.{IsWalking, cost_or_none}
use Rattle.walk_search.proofs.walk.labels_along.Given as goal

abbrev pub invariant-loop-step : goal.invariant-loop-step
invariant-loop-step l = record {
  in_range : l.at < spots_of (question l.asked).board.bounds + 1;
  walking : IsWalking (question l.asked) l.known l.labels.items l.at;
}

abbrev pub decreases-loop-step : goal.decreases-loop-step
decreases-loop-step l = cost_or_none (known_at l.known l.at)
