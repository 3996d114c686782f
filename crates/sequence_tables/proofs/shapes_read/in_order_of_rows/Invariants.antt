use Rattle.std.proofs.Common.{◌≡◌, ◌≤◌, true, is_some, length}
use Rattle.table_rows.specs.Ids.{is_among}
use Rattle.sequence_tables.specs.ShapeReads.{shape_place, sighted_before}
use Rattle.sequence_tables.proofs.shapes_read.in_order_of_rows.Given as goal

abbrev pub invariant-loop-row : goal.invariant-loop-row
invariant-loop-row l = record {
  last : l.last.place ≡ shape_place l.named l.last.id.now;
  same : l.seen ≡ l.order;
  order : l.order ≡ sighted_before l.named l.columns l.row l.rows;
  few : length l.order ≤ l.row;
  noted : is_some l.last.place ≡ true → is_among l.last.id.now l.order ≡ true;
}
