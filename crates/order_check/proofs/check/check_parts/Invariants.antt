use Rattle.std.proofs.Common.{◌≡◌, ◌≤◌, length, map}
use Rattle.order_model.specs.Gathering.{part_lists}
use Rattle.order_model.specs.Prefixes.{IsPrefixOf}
use Rattle.order_proof.specs.Plain.{plain_part}
use Rattle.order_model.specs.Prefixes.{none_placed}
use Rattle.order_check.proofs.Verdicts.{FirstFrom}
use Rattle.order_check.proofs.check.check_parts.Given as goal

abbrev pub invariant-loop-k : goal.invariant-loop-k
invariant-loop-k l = (l.k ≤ length l.proofs) × FirstFrom l.problem.segs l.problem.terms (part_lists l.parts) (map plain_part l.proofs) l.k
    × IsPrefixOf l.problem.segs l.prefix × (l.prefix.placed ≡ none_placed l.problem.segs)
