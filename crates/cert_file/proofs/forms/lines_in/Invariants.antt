use Rattle.std.proofs.Common.{◌≡◌, drop}
use Rattle.cert_file.specs.Forms.{lines_in}
use Rattle.cert_file.proofs.Pairs.{behind}
use Rattle.cert_file.proofs.forms.lines_in.Given as goal

-- the lines so far, and those of the numbers that are left, are those of all
abbrev pub invariant-loop-number : goal.invariant-loop-number
invariant-loop-number l = behind l.lines.items (lines_in (drop l.number-index l.numbers)) ≡ lines_in l.numbers
