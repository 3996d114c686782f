use Rattle.gtfs_fields.specs.RowByRow.{IsReading}
use Rattle.file_lookup.proofs.rows.row_around.Given as goal

abbrev pub invariant-loop-number : goal.invariant-loop-number
invariant-loop-number l = IsReading l.reader
