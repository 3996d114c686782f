use Rattle.line_calls.specs.Tables.{lists_in, AreByLine}
use Rattle.line_calls.proofs.by_line.numbers_by_line.Given as goal

-- the patterns so far are by their lines
abbrev pub invariant-loop-k : goal.invariant-loop-k
invariant-loop-k l = AreByLine l.lines l.patterns l.k (lists_in l.lists.items)
