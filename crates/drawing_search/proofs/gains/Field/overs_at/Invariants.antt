use Rattle.std.proofs.Common.{◌≡◌, ℕ, ◌<◌, None, length, get_or}
use Rattle.drawing_search.proofs.Common.{direction, overs_by, scale_of, IsSmallOver}
use Rattle.drawing_search.proofs.gains.Field.overs_at.Given as goal

-- the ports so far
abbrev pub invariant-loop-i : goal.invariant-loop-i
invariant-loop-i l = record {
  each : length l.overs ≡ 8;
  values : (k : ℕ) → k < l.i → get_or l.overs k None ≡ overs_by (scale_of l.self.by) l.self.graph.now l.sketch l.n.0 l.s (direction k);
  small : (k : ℕ) → k < l.i → IsSmallOver (get_or l.overs k None);
}
