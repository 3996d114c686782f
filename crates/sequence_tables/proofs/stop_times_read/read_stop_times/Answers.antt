use Rattle.std.proofs.Common.{◌≡◌, ◌∙◌, ◌∷◌, [], List, ap, sym, subst, refl, arith}
use Rattle.gtfs_fields.specs.RowByRow.{row_read, rows_to_come}
use Rattle.table_rows.specs.declared.why.Table.TheVariants.{StopTimes}
use Rattle.table_rows.specs.Values.{rows_of}
use Rattle.table_rows.specs.Cells.{Row}
use Rattle.table_rows.specs.Outcome.{Refuses, never}
use Rattle.table_rows.specs.Reasons.{header_reason}
use Rattle.table_rows.proofs.ReasonLemmas.{Refuses-bad}
use Rattle.sequence_tables.specs.RowsFrom.{rows_from}
use Rattle.sequence_tables.specs.StopTimes.{stop_time_columns, stop_times_reason, required_columns, trip_stations, stop_times_of}
use Rattle.sequence_tables.specs.StopTimeReads.{AreReads}
use Rattle.sequence_tables.proofs.stop_times_read.read_stop_times.Goals as goal

pub returns-in-Some-clause-refused : goal.returns-in-Some-clause-refused
returns-in-Some-clause-refused c =
    let trips = c.args.trips.now in
    let stops = c.args.stops.now in
    let takes = rw c.if-not-branch.false at c.in_ok-next.ensures.reads in
    let header = row_read c.next.new.self in
    let rows : List Row = header ∷ rows_to_come c.next.new.self in
    let all : rows_of c.args.bytes.items ≡ rows = ap rows_of (sym c.deref.ensures.value) ∙ sym c.in_ok-reader.ensures.all ∙ takes in
    subst (λ (rs : List Row). Refuses never c.bad_row-in-Some.result (stop_times_of trips stops rs)) (sym all)
    (Refuses-bad StopTimes (stop_times_reason trips stops rows) rows (trip_stations trips stops rows) 0 c.in-Some.why c.bad_row-in-Some.result
    (omega arith)
    refl
    (ap (λ columns. header_reason (required_columns columns) header) (ap (λ (row : Row). stop_time_columns (row ∷ [])) (sym c.row-header.ensures) ∙ sym c.stop_time_columns-columns.ensures)
    ∙ ap (header_reason (required_columns c.stop_time_columns-columns.result)) (sym c.row-header.ensures)
    ∙ sym c.reason_of_header.ensures ∙ c.in-Some.is)
    c.bad_row-in-Some.ensures)

pub returns-clause-read : goal.returns-clause-read
returns-clause-read c =
    let takes = rw c.if-not-branch.false at c.in_ok-next.ensures.reads in
    let whole : rows_from c.next.new.self ≡ rows_of c.args.bytes.items =
    sym takes ∙ c.in_ok-reader.ensures.all ∙ ap rows_of c.deref.ensures.value in
    subst (λ (rs : List Row). AreReads c.args.trips.now c.args.stops.now rs c.in_ok-read_rows.field-0) whole c.in_ok-read_rows.ensures
