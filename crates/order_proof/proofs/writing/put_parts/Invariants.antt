use Rattle.std.proofs.Common.{◌≡◌, ◌++◌, map, drop}
use Rattle.order_proof.specs.Plain.{plain_part}
use Rattle.order_proof.specs.Text.{parts_text}
use Rattle.order_proof.proofs.writing.put_parts.Given as goal

-- what is written and what is left are the whole
abbrev pub invariant-loop-part : goal.invariant-loop-part
invariant-loop-part l = l.out.items ++ parts_text (map plain_part (drop l.part-index l.parts)) ≡ l.fn.out.items ++ parts_text (map plain_part l.parts)
