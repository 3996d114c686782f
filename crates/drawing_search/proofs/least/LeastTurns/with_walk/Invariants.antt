use Rattle.std.proofs.Common.{◌≡◌, ℕ, ◌+◌, ◌*◌, ◌<◌, ◌≤◌, min, length, get_or}
use Rattle.drawing_search.specs.Least.{turns_at_least}
use Rattle.drawing_search.proofs.least.LeastTurns.with_walk.Given as goal

-- the ways so far know the walk
abbrev pub invariant-loop-way : goal.invariant-loop-way
invariant-loop-way l = record {
  each : length l.self.by ≡ 9;
  price : l.self.per_turn ≡ l.initial.self.per_turn;
  free : l.self.free_turns ≡ l.initial.self.free_turns;
  done : (k : ℕ) → k < l.way → get_or l.self.by k 0 ≡ min (get_or l.initial.self.by k 0) (l.overs + l.initial.self.per_turn * turns_at_least l.first l.last k);
  left : (k : ℕ) → l.way ≤ k → get_or l.self.by k 0 ≡ get_or l.initial.self.by k 0;
}
