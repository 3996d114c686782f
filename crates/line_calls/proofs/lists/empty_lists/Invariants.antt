use Rattle.line_calls.specs.Tables.{lists_in, AreEmpty}
use Rattle.line_calls.proofs.lists.empty_lists.Given as goal

-- the lists so far
abbrev pub invariant-loop : goal.invariant-loop
invariant-loop l = AreEmpty l.counter (lists_in l.lists.items)
