use Rattle.std.proofs.Common.{◌≡◌, ◌+◌, drop}
use Rattle.order_proof.specs.Plain.{plain, plain_children}
use Rattle.order_proof.specs.Trees.{splits_of, splits_of_cases}
use Rattle.trial_command.proofs.splits.+with_splits.Given as goal

-- what is counted and what is left are the whole
abbrev pub invariant-loop-entry : goal.invariant-loop-entry
invariant-loop-entry l = l.count + splits_of_cases (plain_children (drop l.entry-index l.entry-items)) ≡ l.before + splits_of (plain l.tree)
