use Rattle.std.proofs.Common.{◌≡◌, ◌≤◌, drop}
use Rattle.decimal_text.specs.Numbers.{with_digits, most_number}
use Rattle.decimal_text.proofs.numbers.digits_of.Given as goal

abbrev pub invariant-loop-byte : goal.invariant-loop-byte
invariant-loop-byte l = (with_digits most_number l.number (drop l.byte-index l.text) ≡ with_digits most_number 0 l.text) × (l.number ≤ most_number)
