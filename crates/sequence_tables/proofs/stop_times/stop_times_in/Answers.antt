use Rattle.std.proofs.Common.{◌∙◌, ◌≡◌, ℕ, List, Option, Some, None, Ok, ap, sym, subst, arith, get_or, option_map, map, filter, drop, MatchOption, length}
use Rattle.ordered_entries.specs.declared.entry.Entry.{Entry}
use Rattle.ordered_entries.specs.Entries.{AreDistinct, IsFirstRepeat}
use Rattle.table_rows.specs.declared.why.Why.{Why}
use Rattle.table_rows.specs.declared.why.Table.TheVariants.{StopTimes}
use Rattle.table_rows.specs.Reasons.{unless_bad}
use Rattle.table_rows.specs.Values.{rows_of}
use Rattle.table_rows.specs.Cells.{rows_before}
use Rattle.table_rows.proofs.RowLemmas.{rows_before-all}
use Rattle.sequence_tables.specs.Reads.{first_refused}
use Rattle.sequence_tables.specs.StopTimes.{stop_time_columns, is_read, station_at, trip_stations}
use Rattle.sequence_tables.specs.StopTimeReads.{entry_in}
use Rattle.sequence_tables.proofs.ReadLemmas.{few_read}
use Rattle.sequence_tables.proofs.StopTimeLemmas.{first_bad_is, repeat_within, none_refused, all_read, refused}
use Rattle.sequence_tables.proofs.StationLemmas.{all_stations}
use Rattle.sequence_tables.proofs.stop_times.stop_times_in.Goals as goal

pub of-requires : goal.of-requires
of-requires c =
    let reads = c.in_ok-reads.reads in
    few_read (is_read c.args.trips.now (stop_time_columns (rows_of c.args.bytes.items))) (entry_in c.args.trips.now (stop_time_columns (rows_of c.args.bytes.items))) reads.upto (rows_of c.args.bytes.items) 4294967296 c.into_vec.result.items c.requires.few
    (c.into_vec.ensures ∙ c.in_ok-reads.ensures.read.entries)

pub first_refused-requires-clause-few : goal.first_refused-requires-clause-few
first_refused-requires-clause-few c = omega (arith, c.in_ok-reads.ensures.read.within, c.requires.few)

pub first_refused-requires-clause-within : goal.first_refused-requires-clause-within
first_refused-requires-clause-within c =
    let reads = c.in_ok-reads.reads in
    let repeats = subst (λ (es : List Entry). MatchOption c.first_repeat-repeat.result (AreDistinct es) (IsFirstRepeat es)) (c.in_ok-ordered.ensures ∙ c.into_vec.ensures) c.first_repeat-repeat.ensures in
    repeat_within c.args.trips.now c.args.stops.now (rows_of c.args.bytes.items) reads c.first_repeat-repeat.result c.in_ok-reads.ensures.read repeats

pub returns-in-Some : goal.returns-in-Some
returns-in-Some c =
    let reads = c.in_ok-reads.reads in
    let repeats = subst (λ (es : List Entry). MatchOption c.first_repeat-repeat.result (AreDistinct es) (IsFirstRepeat es)) (c.in_ok-ordered.ensures ∙ c.into_vec.ensures) c.first_repeat-repeat.ensures in
    let stopped : Option (ℕ × Why) = option_map (λ why. (reads.upto, why)) reads.stopped in
    let found : first_refused (option_map (λ k. get_or reads.places k 0) c.first_repeat-repeat.result) stopped ≡ Some c.in-Some.bad =
    sym c.first_refused.ensures.first ∙ c.in-Some.is in
    refused c.args.trips.now c.args.stops.now (rows_of c.args.bytes.items) reads c.first_repeat-repeat.result c.in-Some.bad c.bad_row.result c.in_ok-reads.ensures.header c.in_ok-reads.ensures.read repeats found c.bad_row.ensures

pub returns : goal.returns
returns c =
    let trips = c.args.trips.now in
    let stops = c.args.stops.now in
    let rows = rows_of c.args.bytes.items in
    let reads = c.in_ok-reads.reads in
    let repeats = subst (λ (es : List Entry). MatchOption c.first_repeat-repeat.result (AreDistinct es) (IsFirstRepeat es)) (c.in_ok-ordered.ensures ∙ c.into_vec.ensures) c.first_repeat-repeat.ensures in
    let stopped : Option (ℕ × Why) = option_map (λ why. (reads.upto, why)) reads.stopped in
    let none : first_refused (option_map (λ k. get_or reads.places k 0) c.first_repeat-repeat.result) stopped ≡ None =
    sym c.first_refused.ensures.first ∙ c.in_default.is in
    let all : reads.upto ≡ length rows =
    all_read trips stops rows reads c.in_ok-reads.ensures.read (none_refused c.first_repeat-repeat.result (λ k. get_or reads.places k 0) reads.upto reads.stopped none) in
    let behind : rows_before reads.upto rows ≡ drop 1 rows = rows_before-all reads.upto rows (omega (arith, all)) in
    ap (λ bad. unless_bad StopTimes bad (trip_stations trips stops rows)) (first_bad_is trips stops rows reads c.first_repeat-repeat.result c.in_ok-reads.ensures.header c.in_ok-reads.ensures.read repeats ∙ none)
    ∙ ap Ok (sym (c.in_ok-stations_by_key.ensures
    ∙ all_stations trips stops rows c.as_slice.result.now c.in_ok-ordered.ordered (length c.as_slice-count.result.now) c.requires.numbered
    (c.as_slice.ensures ∙ c.in_ok-reads.ensures.read.stations ∙ ap (λ rs. map (station_at stops (stop_time_columns rows)) (filter (is_read trips (stop_time_columns rows)) rs)) behind)
    (c.in_ok-ordered.ensures ∙ c.into_vec.ensures ∙ c.in_ok-reads.ensures.read.entries ∙ ap (λ rs. map (entry_in trips (stop_time_columns rows)) (filter (is_read trips (stop_time_columns rows)) rs)) behind)
    (ap length c.as_slice-count.ensures)))
