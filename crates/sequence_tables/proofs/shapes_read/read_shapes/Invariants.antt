use Rattle.std.proofs.Common.{◌≡◌, map, filter, None}
use Rattle.table_rows.specs.Cells.{rows_before}
use Rattle.table_rows.specs.Reasons.{first_below}
use Rattle.sequence_tables.specs.Reads.{places_before}
use Rattle.sequence_tables.specs.Shapes.{point_in}
use Rattle.sequence_tables.specs.ShapeReads.{own_reason_at, entry_in, is_read, shape_place}
use Rattle.sequence_tables.proofs.shapes_read.read_shapes.Given as goal

abbrev pub invariant-loop-row : goal.invariant-loop-row
invariant-loop-row l = record {
  last : l.last.place ≡ shape_place l.named l.last.id.now;
  good : first_below (own_reason_at l.named l.rows) l.row ≡ None;
  entries : l.so_far.entries.items ≡ map (entry_in l.named l.columns) (filter (is_read l.named l.columns) (rows_before l.row l.rows));
  points : l.so_far.values.items ≡ map (point_in l.columns) (filter (is_read l.named l.columns) (rows_before l.row l.rows));
  places : l.so_far.places ≡ places_before (is_read l.named l.columns) l.row l.rows;
}
