use Rattle.std.proofs.Common.{◌≡◌, ◌++◌, drop}
use Rattle.decimal_text.specs.Lines.{numbers_text}
use Rattle.cert_file.specs.Text.{line_numbers}
use Rattle.cert_file.proofs.writing.push_lines.Given as goal

-- what is written and what is left are the whole
abbrev pub invariant-loop-line : goal.invariant-loop-line
invariant-loop-line l = l.text.items ++ numbers_text (line_numbers (drop l.line-index l.lines)) ≡ l.fn.text.items ++ numbers_text (line_numbers l.lines)
