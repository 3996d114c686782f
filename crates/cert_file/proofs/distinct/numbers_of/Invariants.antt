use Rattle.std.proofs.Common.{◌≡◌, ◌++◌, drop}
use Rattle.cert_file.specs.Forms.{numbers_of_lines}
use Rattle.cert_file.proofs.distinct.numbers_of.Given as goal

-- the numbers so far, and those of the lines that are left, are those of all
abbrev pub invariant-loop-line : goal.invariant-loop-line
invariant-loop-line l = l.numbers.items ++ numbers_of_lines (drop l.line-index l.lines) ≡ numbers_of_lines l.lines
