use Rattle.line_calls.specs.Tables.{callers_in, lists_in, IsTable}
use Rattle.line_calls.proofs.table.call_table.Given as goal

-- the table of the lines so far
abbrev pub invariant-loop-line : goal.invariant-loop-line
invariant-loop-line l = IsTable l.stations (callers_in l.patterns (lists_in l.by_line) l.line) (lists_in l.table.items)
