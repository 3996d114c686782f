use Rattle.std.proofs.Common.{◌≡◌, fold, drop}
use Rattle.graph_json.specs.Limits.{with_lines, lines_on}
use Rattle.graph_json.proofs.limits.lines_on.Given as goal

-- what is known, with what is left, is the whole
abbrev pub invariant-loop-lines : goal.invariant-loop-lines
invariant-loop-lines l = fold with_lines l.known.keys (drop l.lines-index l.segments) ≡ lines_on l.segments
