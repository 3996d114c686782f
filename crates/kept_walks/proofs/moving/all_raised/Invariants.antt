use Rattle.std.proofs.Common.{◌≡◌, ℕ, ◌<◌, true, false, length, get_or}
use Rattle.kept_walks.proofs.moving.all_raised.Given as goal

-- the first flags are raised
abbrev pub invariant-loop-n : goal.invariant-loop-n
invariant-loop-n l = record {
  each : length l.flags ≡ l.count;
  raised : (k : ℕ) → k < l.n → get_or l.flags k false ≡ true;
}
