use Rattle.std.proofs.Common.{◌≡◌, drop}
use Rattle.graph_json.specs.Written.{after_lines}
use Rattle.graph_json.proofs.writing.after_lines.Given as goal

-- what is left, after what is counted, comes to the whole
abbrev pub invariant-loop-line : goal.invariant-loop-line
invariant-loop-line l = after_lines l.most (drop l.line-index l.lines) ≡ after_lines l.listed l.lines
