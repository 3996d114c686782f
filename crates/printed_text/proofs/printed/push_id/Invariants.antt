use Rattle.std.proofs.Common.{◌≡◌, ◌++◌, take}
use Rattle.printed_text.specs.Printed.{printed_id}
use Rattle.printed_text.proofs.printed.push_id.Given as goal

abbrev pub invariant-loop-byte : goal.invariant-loop-byte
invariant-loop-byte l = l.text.items ≡ l.fn.text.items ++ printed_id (take l.byte-index l.id)
