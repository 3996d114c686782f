use Rattle.std.proofs.Common.{◌≡◌, ◌+◌}
use Rattle.kept_trees.proofs.rounds.count_round.Given as goal

abbrev pub invariant-loop : goal.invariant-loop
invariant-loop g l = l.steps ≡ l.initial.steps + l.counter
