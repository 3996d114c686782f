use Rattle.std.proofs.Common.{◌≡◌, drop}
use Rattle.graph_json.specs.Limits.{with_lines}
use Rattle.graph_json.proofs.limits.add_lines.Given as goal

-- what is known, with what is left, is the whole
abbrev pub invariant-loop-line : goal.invariant-loop-line
invariant-loop-line l = with_lines l.known.keys (drop l.line-index l.lines) ≡ with_lines l.fn.known.keys l.lines
