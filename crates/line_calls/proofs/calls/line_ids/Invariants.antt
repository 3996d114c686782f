use Rattle.std.proofs.Common.{◌≡◌, map, take}
use Rattle.line_calls.specs.Calls.{line_numbered}
use Rattle.line_calls.proofs.calls.line_ids.Given as goal

-- the lines so far
abbrev pub invariant-loop-number : goal.invariant-loop-number
invariant-loop-number l = l.lines.items ≡ map line_numbered (take l.number-index l.numbers)
