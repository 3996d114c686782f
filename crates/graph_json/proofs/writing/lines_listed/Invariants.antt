use Rattle.std.proofs.Common.{◌≡◌, fold, drop}
use Rattle.graph_json.specs.Written.{lines_listed, after_lines}
use Rattle.graph_json.proofs.writing.lines_listed.Given as goal

-- what is left, after what is counted, comes to the whole
abbrev pub invariant-loop-s : goal.invariant-loop-s
invariant-loop-s l = fold after_lines l.listed (drop l.s l.graph.lines) ≡ lines_listed l.graph.lines
