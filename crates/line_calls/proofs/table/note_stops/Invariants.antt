use Rattle.std.proofs.Common.{◌≡◌, length, take}
use Rattle.line_calls.specs.Tables.{among, lists_in, Notes}
use Rattle.line_calls.proofs.table.note_stops.Given as goal

-- the line is noted at the stations so far
abbrev pub invariant-loop-stop : goal.invariant-loop-stop
invariant-loop-stop l = record {
  count : length l.table.items ≡ length l.fn.table.items;
  notes : Notes l.line (among (take l.stop-index l.stops)) (lists_in l.fn.table.items) (lists_in l.table.items);
}
