use Rattle.std.proofs.Common.{◌≡◌, ◌≤◌, ◌^◌, drop}
use Rattle.order_proof.specs.Forms.{rising, seg}
use Rattle.order_proof.proofs.Rising.{behind}
use Rattle.order_proof.proofs.forms.rising_segments.Given as goal

-- the segments so far, and those of the numbers that are left, are those of all
abbrev pub invariant-loop-number : goal.invariant-loop-number
invariant-loop-number l = record {
  whole : behind l.segs.items (rising seg l.least (drop l.number-index l.numbers)) ≡ rising seg 0 l.numbers;
  least : l.least ≤ 2 ^ 32;
}
