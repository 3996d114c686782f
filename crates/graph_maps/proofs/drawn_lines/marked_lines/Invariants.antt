use Rattle.std.proofs.Common.{◌≡◌, ◌++◌, drop}
use Rattle.graph_maps.specs.DrawnLines.{marked_lines}
use Rattle.graph_maps.proofs.drawn_lines.marked_lines.Given as goal

-- the lines so far, and those of what is left
abbrev pub invariant-loop-n : goal.invariant-loop-n
invariant-loop-n l = l.lines.items ++ marked_lines l.n (drop l.n l.marks) ≡ marked_lines 0 l.marks
