use Rattle.std.proofs.Common.{take}
use Rattle.poster_graph.specs.Flags.{is_on, AreFlags}
use Rattle.poster_graph.proofs.shown.flags_of.Given as goal

-- the lines of the segments so far
abbrev pub invariant-loop-s : goal.invariant-loop-s
invariant-loop-s l = AreFlags l.count (is_on (take l.s l.graph.lines)) l.flags.items
