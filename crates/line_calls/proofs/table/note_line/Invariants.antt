use Rattle.std.proofs.Common.{◌≡◌, length, take}
use Rattle.line_calls.specs.Tables.{lists_in, served_by, Notes}
use Rattle.line_calls.proofs.table.note_line.Given as goal

-- the line is noted at the stations of the patterns so far
abbrev pub invariant-loop-number : goal.invariant-loop-number
invariant-loop-number l = record {
  count : length l.table.items ≡ length l.fn.table.items;
  notes : Notes l.line (served_by l.patterns (take l.number-index l.numbers)) (lists_in l.fn.table.items) (lists_in l.table.items);
}
