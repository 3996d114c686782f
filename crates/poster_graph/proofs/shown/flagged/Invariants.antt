use Rattle.std.proofs.Common.{◌≡◌, ℕ, false, filter, get_or, map}
use Rattle.std.specs.List.{range_with_len}
use Rattle.poster_rules.specs.Plans.{line_numbered}
use Rattle.poster_graph.proofs.shown.flagged.Given as goal

-- those of the lines so far
abbrev pub invariant-loop-number : goal.invariant-loop-number
invariant-loop-number l = l.lines.items ≡ map line_numbered (filter (λ (n : ℕ). get_or l.flags n false) (range_with_len 0 l.number))
