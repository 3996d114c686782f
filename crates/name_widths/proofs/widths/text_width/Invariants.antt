use Rattle.std.proofs.Common.{◌≡◌, ◌≤◌, length, take, sum_by}
use Rattle.std.specs.Str.{chars}
use Rattle.name_widths.specs.Widths.{char_width}
use Rattle.name_widths.proofs.widths.text_width.Given as goal

-- the characters so far
abbrev pub invariant-loop-c : goal.invariant-loop-c
invariant-loop-c l = record {
  value : l.width ≡ sum_by char_width (take (length l.yielded) (chars l.text));
  small : l.width ≤ 1152921504606846986;
}
