use Rattle.std.proofs.Common.{◌≡◌, ◌+◌, length}
use Rattle.state_search.specs.Searching.{HasGoals, IsSearch, left_of, nothing}
use Rattle.walk_search.specs.Asking.{question}
use Rattle.walk_search.specs.Spots.{spots_of}
use Rattle.walk_search.specs.Moves.{space_of}
use Rattle.walk_search.proofs.search.search.Given as goal

abbrev pub invariant-loop-estimate : goal.invariant-loop-estimate
invariant-loop-estimate l = record {
  each : length l.known ≡ spots_of (question l.asked).board.bounds + 1;
  search : IsSearch (space_of (question l.asked)) l.known l.queue nothing;
  goals : HasGoals (space_of (question l.asked)) l.known;
}

abbrev pub decreases-loop-estimate : goal.decreases-loop-estimate
decreases-loop-estimate l = left_of 21 l.known l.queue
