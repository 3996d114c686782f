use Rattle.std.proofs.Common.{◌≡◌, ◌++◌, length}
use Rattle.gtfs_fields.specs.Pieces.{cut, Covers}
use Rattle.gtfs_fields.specs.Records.{records_of}
use Rattle.gtfs_fields.specs.RowsLeft.{IsPlain, rows_left}
use Rattle.gtfs_fields.proofs.rows.read_rows.Given as goal

abbrev pub invariant-loop-ends : goal.invariant-loop-ends
invariant-loop-ends l = record {
  plain : IsPlain l.reader.value;
  covers : Covers 0 l.ends.items (length l.fields);
  all : records_of l.fn.bytes ≡ cut 0 l.ends.items l.fields ++ rows_left l.reader.value;
}

abbrev pub decreases-loop-ends : goal.decreases-loop-ends
decreases-loop-ends l = length (rows_left l.reader.value)
