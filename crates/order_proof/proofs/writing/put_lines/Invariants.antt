use Rattle.std.proofs.Common.{◌≡◌, ◌++◌, drop}
use Rattle.decimal_text.specs.Lines.{numbers_text}
use Rattle.order_proof.specs.Lines.{line_numbers}
use Rattle.order_proof.proofs.writing.put_lines.Given as goal

-- what is written and what is left are the whole
abbrev pub invariant-loop-line : goal.invariant-loop-line
invariant-loop-line l = l.out.items ++ numbers_text (line_numbers (drop l.line-index l.lines)) ≡ l.fn.out.items ++ numbers_text (line_numbers l.lines)
