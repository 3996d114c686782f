use Rattle.std.proofs.Common.{◌≡◌, ℕ, ◌<◌, not, false, eqb, [], length, get_or}
use Rattle.line_chains.proofs.corners.plain_corners.Given as goal

-- the flags so far
abbrev pub invariant-loop-n : goal.invariant-loop-n
invariant-loop-n l = record {
  each : length l.corners ≡ length l.graph.kinds;
  flags : (k : ℕ) → k < l.n → get_or l.corners k false ≡ not (eqb (length (get_or l.graph.rounds k [])) 2);
}
