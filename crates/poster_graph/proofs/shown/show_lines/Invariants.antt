use Rattle.std.proofs.Common.{◌≡◌, ℕ, ◌<◌, ◌||◌, false, get_or, length, take}
use Rattle.poster_rules.specs.Stations.{has_line}
use Rattle.poster_rules.specs.Plans.{line_numbered}
use Rattle.poster_graph.proofs.shown.show_lines.Given as goal

-- the lines so far are flagged
abbrev pub invariant-loop-line : goal.invariant-loop-line
invariant-loop-line l = record {
  each : length l.flags ≡ length l.initial.flags;
  flagged : (n : ℕ) → n < length l.initial.flags → get_or l.flags n false ≡ (get_or l.initial.flags n false || has_line (line_numbered n) (take l.line-index l.lines));
}
