use Rattle.std.proofs.Common.{◌≡◌, ◌+◌, ◌*◌, ◌<◌, ◌≤◌}
use Rattle.std.specs.List.{find, range_with_len}
use Rattle.poster_layout.proofs.Squares.{enough, left_from}
use Rattle.poster_layout.proofs.legend.rows_for.Given as goal

-- no number of rows so far is enough
abbrev pub invariant-loop-rows : goal.invariant-loop-rows
invariant-loop-rows l = record {
  left : find (enough l.lines) (range_with_len l.rows (left_from l.lines l.rows)) ≡ find (enough l.lines) (range_with_len 12 (2 * l.lines + 1));
  least : 12 ≤ l.rows;
  most : l.rows ≤ 64;
  some : l.rows < 2 * l.lines + 13;
}
