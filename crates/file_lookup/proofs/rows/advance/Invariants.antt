use Rattle.gtfs_fields.specs.RowByRow.{IsReading}
use Rattle.file_lookup.proofs.rows.advance.Given as goal

abbrev pub invariant-rows : goal.invariant-rows
invariant-rows l = IsReading l.reader
