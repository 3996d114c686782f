use Rattle.std.proofs.Common.{◌≡◌, ◌≤◌, ◌^◌, drop}
use Rattle.order_proof.specs.Forms.{rising, line_id}
use Rattle.order_proof.proofs.Rising.{behind}
use Rattle.order_proof.proofs.forms.rising_lines.Given as goal

-- the lines so far, and those of the numbers that are left, are those of all
abbrev pub invariant-loop-number : goal.invariant-loop-number
invariant-loop-number l = record {
  whole : behind l.lines.items (rising line_id l.least (drop l.number-index l.numbers)) ≡ rising line_id 0 l.numbers;
  least : l.least ≤ 2 ^ 32;
}
