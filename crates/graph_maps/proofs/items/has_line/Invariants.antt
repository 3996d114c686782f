use Rattle.std.proofs.Common.{ℕ, ◌<◌, ◌≤◌, ◌-◌, length, get_or}
use Rattle.graph_maps.proofs.items.has_line.Given as goal

-- lines before the range are below the line, and those behind it are above
abbrev pub invariant-loop-low : goal.invariant-loop-low
invariant-loop-low l = record {
  within : l.high ≤ length l.lines;
  below : (k : ℕ) → k < l.low → (get_or l.lines k l.line).0 < l.line.0;
  above : (k : ℕ) → l.high ≤ k → k < length l.lines → l.line.0 < (get_or l.lines k l.line).0;
}

abbrev pub decreases-loop-low : goal.decreases-loop-low
decreases-loop-low l = l.high - l.low
