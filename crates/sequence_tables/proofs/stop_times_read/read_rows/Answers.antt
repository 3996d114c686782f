use Rattle.std.proofs.Common.{◌≡◌, ◌∙◌, ap, sym, arith, length}
use Rattle.map_base.specs.declared.ids.StationId.{StationId}
use Rattle.gtfs_fields.specs.RowByRow.{row_read, rows_to_come}
use Rattle.table_rows.specs.Cells.{row_at}
use Rattle.table_rows.proofs.ReasonLemmas.{first_below-more}
use Rattle.sequence_tables.specs.declared.reads.Read.{Read}
use Rattle.sequence_tables.specs.RowsFrom.{rows_from}
use Rattle.sequence_tables.specs.StopTimes.{is_read, station_at}
use Rattle.sequence_tables.specs.StopTimeReads.{own_reason, own_reason_at, entry_in, read_in}
use Rattle.sequence_tables.proofs.ComingRows.{next_row, no_row}
use Rattle.sequence_tables.proofs.ReadLemmas.{read_more, place_more}
use Rattle.sequence_tables.proofs.StopTimeLemmas.{entry_says, station_says, read_says, own_behind}
use Rattle.sequence_tables.proofs.stop_times_read.read_rows.Goals as goal

pub returns-in-Err : goal.returns-in-Err
returns-in-Err c =
    let trips = c.args.trips.now in
    let stops = c.args.stops.now in
    let columns = c.args.columns.now in
    let rows = rows_from c.args.reader.now in
    let place = c.loop-last.place in
    let so_far = c.loop-last.invariant in
    let takes = rw c.if-branch.true at c.in_ok-next.ensures.reads in
    let found = next_row rows place (row_read c.next.new.self) (rows_to_come c.next.new.self) (so_far.coming ∙ takes) in
    let same : c.row-row.result ≡ row_at rows place = c.row-row.ensures ∙ sym found.1 in
    record {
      within = rw c.up_to.ensures.upto so_far.within;
      passed = rw c.up_to.ensures.upto so_far.good;
      stopped = rw (c.up_to.ensures.stopped, c.up_to.ensures.upto) (
        found.0,
        own_behind trips stops rows place so_far.from ∙ ap (λ cs. own_reason trips stops cs (row_at rows place)) (sym c.requires.columns)
            ∙ ap (own_reason trips stops columns) (sym same) ∙ c.in-Err.ensures.bad,
      );
      entries = rw (c.up_to.ensures.upto, ← c.requires.columns) (c.up_to.ensures.entries ∙ so_far.entries);
      stations = rw (c.up_to.ensures.upto, ← c.requires.columns) (c.up_to.ensures.values ∙ so_far.stations);
      places = rw (c.up_to.ensures.upto, ← c.requires.columns) (c.up_to.ensures.places ∙ so_far.places);
    }

pub loop-last-preserved : goal.loop-last-preserved
loop-last-preserved c =
    let trips = c.args.trips.now in
    let stops = c.args.stops.now in
    let columns = c.args.columns.now in
    let rows = rows_from c.args.reader.now in
    let place = c.loop-last.place in
    let so_far = c.loop-last.invariant in
    let takes = rw c.if-branch.true at c.in_ok-next.ensures.reads in
    let found = next_row rows place (row_read c.next.new.self) (rows_to_come c.next.new.self) (so_far.coming ∙ takes) in
    let same : c.row-row.result ≡ row_at rows place = c.row-row.ensures ∙ sym found.1 in
    let says = c.in-Ok.ensures.read ∙ ap (read_in trips stops columns) same in
    record {
      reading = c.in_ok-next.ensures.reading;
      from = omega (arith, so_far.from);
      within = omega (arith, found.0);
      coming = found.2;
      last = c.in_ok-trip.ensures.known;
      good = first_below-more (own_reason_at trips stops rows) place so_far.good
          (own_behind trips stops rows place so_far.from ∙ ap (λ cs. own_reason trips stops cs (row_at rows place)) (sym c.requires.columns)
          ∙ ap (own_reason trips stops columns) (sym same) ∙ c.in-Ok.ensures.good);
      entries = read_more (is_read trips columns) (entry_in trips columns) (λ (r : Read StationId). r.entry) (read_in trips stops columns) rows place c.loop-last.so_far.entries.items c.note.new.self.entries.items c.in-Ok.read
          (entry_says trips stops columns) so_far.from found.0 so_far.entries says c.in_ok-note-in-Ok.ensures.entries;
      stations = read_more (is_read trips columns) (station_at stops columns) (λ (r : Read StationId). r.value) (read_in trips stops columns) rows place c.loop-last.so_far.values.items c.note.new.self.values.items c.in-Ok.read
          (station_says trips stops columns) so_far.from found.0 so_far.stations says c.in_ok-note-in-Ok.ensures.values;
      places = place_more (is_read trips columns) (read_in trips stops columns) rows place c.loop-last.so_far.places c.note.new.self.places c.in-Ok.read
          (read_says trips stops columns) so_far.from so_far.places says c.in_ok-note-in-Ok.ensures.places;
    }

pub returns : goal.returns
returns c =
    let rows = rows_from c.args.reader.now in
    let place = c.loop-last.place in
    let so_far = c.loop-last.invariant in
    let none = rw c.if-branch.false at c.in_ok-next.ensures.reads in
    let all : place ≡ length rows = no_row rows place so_far.within (so_far.coming ∙ none) in
    record {
      within = rw c.up_to-2.ensures.upto so_far.within;
      passed = rw c.up_to-2.ensures.upto so_far.good;
      stopped = rw (c.up_to-2.ensures.stopped, c.up_to-2.ensures.upto) all;
      entries = rw (c.up_to-2.ensures.upto, ← c.requires.columns) (c.up_to-2.ensures.entries ∙ so_far.entries);
      stations = rw (c.up_to-2.ensures.upto, ← c.requires.columns) (c.up_to-2.ensures.values ∙ so_far.stations);
      places = rw (c.up_to-2.ensures.upto, ← c.requires.columns) (c.up_to-2.ensures.places ∙ so_far.places);
    }
