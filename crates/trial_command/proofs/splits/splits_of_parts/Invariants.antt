use Rattle.std.proofs.Common.{◌≡◌, ◌+◌, map, drop}
use Rattle.order_proof.specs.Plain.{plain_part}
use Rattle.trial_command.specs.Trials.{splits_of_parts}
use Rattle.trial_command.proofs.splits.splits_of_parts.Given as goal

-- what is counted and what is left are the whole
abbrev pub invariant-loop-part : goal.invariant-loop-part
invariant-loop-part l = l.count + splits_of_parts (map plain_part (drop l.part-index l.parts)) ≡ splits_of_parts (map plain_part l.parts)
