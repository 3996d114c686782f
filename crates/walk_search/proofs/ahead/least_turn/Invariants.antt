use Rattle.std.proofs.Common.{◌≡◌}
use Rattle.walk_search.specs.Moves.{least_of_turns}
use Rattle.walk_search.proofs.ahead.least_turn.Given as goal

abbrev pub invariant-loop-number : goal.invariant-loop-number
invariant-loop-number l = record { least : l.least ≡ least_of_turns l.ports l.to l.number }
