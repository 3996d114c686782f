-- The rows of `stop_times.txt`: their reasons, and which of them repeat an earlier one.
use Rattle.std.proofs.Common.{◌≡◌, ℕ, zero, suc, ◌+◌, ◌<◌, ◌≤◌, ◌&&◌, not, Bool, true, false, cond, eqb, List, [], ◌∷◌, length, get_or, map, filter, bytes_eq, Option, Some, None, is_some, is_none, unwrap_or, option_and_then, option_map, option_to_list, MatchOption, IfSome, refl, sym, ◌∙◌, ap, subst, arith, true≢false}
use Rattle.std.proofs.lemmas.Bool.Decides.{nat_tests}
use Rattle.map_base.specs.declared.ids.StationId.{StationId}
use Rattle.ordered_entries.specs.declared.entry.Entry.{Entry}
use Rattle.ordered_entries.specs.Entries.{AreDistinct, IsFirstRepeat}
use Rattle.table_rows.specs.declared.why.Why.{Why}
use Rattle.table_rows.specs.declared.why.Why.TheVariants.{WrongFields, NotUtf8, BadWhole, UnknownTrip, UnknownStop, RepeatedSequence}
use Rattle.table_rows.specs.declared.why.Table.TheVariants.{StopTimes}
use Rattle.table_rows.specs.declared.fault.FeedFault.{FeedFault}
use Rattle.table_rows.specs.declared.fault.FeedFault.TheVariants as faults
use Rattle.table_rows.specs.Outcome.{Refuses, never}
use Rattle.table_rows.specs.Ids.{is_among}
use Rattle.table_rows.specs.Cells.{Row, row_at, rows_before, field_in, ends_early, is_text, is_empty}
use Rattle.table_rows.specs.Reasons.{first_met, first_below, first_bad, unless_bad}
use Rattle.table_rows.proofs.ReasonLemmas.{first_met-none, first_met-front, first_met-back, first_below-none}
use Rattle.sequence_tables.specs.declared.stop_time_columns.StopTimeColumns.{StopTimeColumns}
use Rattle.sequence_tables.specs.declared.reads.Read.{Read}
use Rattle.sequence_tables.specs.declared.reads.Reads.{Reads}
use Rattle.stop_table.specs.declared.known.KnownStops.{KnownStops}
use Rattle.route_tables.specs.declared.known.KnownTrips.{KnownTrips}
use Rattle.sequence_tables.specs.Reads.{passes, places_before, first_refused}
use Rattle.sequence_tables.specs.Shapes.{is_same_number}
use Rattle.sequence_tables.specs.StopTimes.{stop_time_columns, required_columns, sequence_in, station_in, station_at, is_read, is_same_place, is_repeated, stop_times_reason, stop_times_of, trip_stations}
use Rattle.sequence_tables.specs.StopTimeReads.{own_reason, own_reason_at, entry_in, read_in, FailsInFull, AreReads}
use Rattle.route_tables.specs.Trips.{trip_place, line_at, is_selected}
use Rattle.sequence_tables.proofs.PlaceLemmas.{same_bytes, bytes_same, placed_among, unplaced_among, some_before, before_some}
use Rattle.sequence_tables.proofs.ReadLemmas.{no_repeat, first_repeat, bad_by_repeat, bad_by_itself, none_bad, counted_places}

-- The reasons of a row by itself, told each test.

abbrev own : Bool → Bool → Bool → Bool → Bool → Bool → Option Why
own early text read whole known station = first_met (
    (early, WrongFields)
    ∷ (not text, NotUtf8)
    ∷ (read && whole, BadWhole)
    ∷ (not known, UnknownTrip)
    ∷ (read && station, UnknownStop)
    ∷ [])

own-trip : (early text read whole known station : Bool) → early ≡ false → text ≡ true → read ≡ false → known ≡ false → own early text read whole known station ≡ Some UnknownTrip
own-trip early text read whole known station a b c d = rw (a, b, c, d) refl

own-passed : (early text read whole known station : Bool) → early ≡ false → text ≡ true → read ≡ false → known ≡ true → own early text read whole known station ≡ None
own-passed early text read whole known station a b c d = rw (a, b, c, d) refl

own-read : (early text read whole known station : Bool) → early ≡ false → text ≡ true → read ≡ true → whole ≡ false → known ≡ true → station ≡ false
    → own early text read whole known station ≡ None
own-read early text read whole known station a b c d e f = rw (a, b, c, d, e, f) refl

own-whole : (early text read whole known station : Bool) → early ≡ false → text ≡ true → read ≡ true → whole ≡ true → own early text read whole known station ≡ Some BadWhole
own-whole early text read whole known station a b c d = rw (a, b, c, d) refl

own-stop : (early text read whole known station : Bool) → early ≡ false → text ≡ true → read ≡ true → whole ≡ false → known ≡ true → station ≡ true
    → own early text read whole known station ≡ Some UnknownStop
own-stop early text read whole known station a b c d e f = rw (a, b, c, d, e, f) refl

-- a row without such a reason that is read in full has a sequence
own-whole-none : (early text read whole known station : Bool) → read ≡ true → own early text read whole known station ≡ None → whole ≡ false
own-whole-none early text read whole known station r none =
    let last : List (Bool × Why) = (not known, UnknownTrip) ∷ (read && station, UnknownStop) ∷ [] in
    let first = first_met-none early WrongFields ((not text, NotUtf8) ∷ (read && whole, BadWhole) ∷ last) none in
    let second = first_met-none (not text) NotUtf8 ((read && whole, BadWhole) ∷ last) first.1 in
    let third = first_met-none (read && whole) BadWhole last second.1 in
    sym (ap (λ b. b && whole) r) ∙ third.0

module _ (trips : KnownTrips) (stops : KnownStops) (c : StopTimeColumns) where
  -- the tests of a row, told the place of its trip
  pub read_is : (row : Row) (place : ℕ) → trip_place trips (field_in row c.trip) ≡ Some place
      → is_read trips c row ≡ (is_some (line_at trips place) && not (is_empty (field_in row c.stop)))
  read_is row place e = ap (λ p. is_some (option_and_then (line_at trips) p) && not (is_empty (field_in row c.stop))) e

  pub read-none : (row : Row) → trip_place trips (field_in row c.trip) ≡ None → is_read trips c row ≡ false
  read-none row e = ap (λ p. is_some (option_and_then (line_at trips) p) && not (is_empty (field_in row c.stop))) e

  pub unknown_trip : (row : Row) → ends_early row (required_columns c) ≡ false → is_text row ≡ true → trip_place trips (field_in row c.trip) ≡ None
      → own_reason trips stops c row ≡ Some UnknownTrip
  unknown_trip row a b e =
      own-trip (ends_early row (required_columns c)) (is_text row) (is_read trips c row) (is_none (sequence_in c row)) (is_among (field_in row c.trip) trips.ids) (is_none (station_in stops c row))
      a b (read-none row e) (unplaced_among trips.ids (field_in row c.trip) e)

  pub passed_over : (row : Row) (place : ℕ) → ends_early row (required_columns c) ≡ false → is_text row ≡ true → trip_place trips (field_in row c.trip) ≡ Some place
      → (is_some (line_at trips place) && not (is_empty (field_in row c.stop))) ≡ false → own_reason trips stops c row ≡ None
  passed_over row place a b e not_read =
      own-passed (ends_early row (required_columns c)) (is_text row) (is_read trips c row) (is_none (sequence_in c row)) (is_among (field_in row c.trip) trips.ids) (is_none (station_in stops c row))
      a b (read_is row place e ∙ not_read) (placed_among trips.ids (field_in row c.trip) place e).2

  pub good_in_full : (row : Row) (place : ℕ) → ends_early row (required_columns c) ≡ false → is_text row ≡ true → trip_place trips (field_in row c.trip) ≡ Some place
      → (is_some (line_at trips place) && not (is_empty (field_in row c.stop))) ≡ true → is_none (sequence_in c row) ≡ false → is_none (station_in stops c row) ≡ false
      → own_reason trips stops c row ≡ None
  good_in_full row place a b e read s t =
      own-read (ends_early row (required_columns c)) (is_text row) (is_read trips c row) (is_none (sequence_in c row)) (is_among (field_in row c.trip) trips.ids) (is_none (station_in stops c row))
      a b (read_is row place e ∙ read) s (placed_among trips.ids (field_in row c.trip) place e).2 t

  pub fails_in_full : (row : Row) (place : ℕ) (why : Why) → ends_early row (required_columns c) ≡ false → is_text row ≡ true → trip_place trips (field_in row c.trip) ≡ Some place
      → (is_some (line_at trips place) && not (is_empty (field_in row c.stop))) ≡ true → FailsInFull stops c row why
      → own_reason trips stops c row ≡ Some why
  fails_in_full row place BadWhole a b e read s =
      own-whole (ends_early row (required_columns c)) (is_text row) (is_read trips c row) (is_none (sequence_in c row)) (is_among (field_in row c.trip) trips.ids) (is_none (station_in stops c row))
      a b (read_is row place e ∙ read) s
  fails_in_full row place UnknownStop a b e read s =
      own-stop (ends_early row (required_columns c)) (is_text row) (is_read trips c row) (is_none (sequence_in c row)) (is_among (field_in row c.trip) trips.ids) (is_none (station_in stops c row))
      a b (read_is row place e ∙ read) s.0 (placed_among trips.ids (field_in row c.trip) place e).2 s.1
  fails_in_full row place other a b e read s = absurd s

  -- Rows of one trip and one sequence.

  selected_place : (id : List ℕ) → is_selected trips id ≡ true → (place : ℕ) × (trip_place trips id ≡ Some place)
  selected_place id h = by (trip_place trips id) refl
    where
      by : (p : Option ℕ) → trip_place trips id ≡ p → (place : ℕ) × (trip_place trips id ≡ Some place)
      by None e = absurd (true≢false (sym h ∙ ap (λ p. is_some (option_and_then (line_at trips) p)) e))
      by (Some place) e = (place, e)

  pub read_place : (row : Row) → is_read trips c row ≡ true → (place : ℕ) × (trip_place trips (field_in row c.trip) ≡ Some place)
  read_place row h = selected_place (field_in row c.trip) (first (is_selected trips (field_in row c.trip)) (not (is_empty (field_in row c.stop))) h)
    where
      first : (a b : Bool) → (a && b) ≡ true → a ≡ true
      first true b h = refl
      first false b h = absurd (true≢false (sym h))

  read_sequence : (row : Row) → is_read trips c row ≡ true → own_reason trips stops c row ≡ None → (n : ℕ) × (sequence_in c row ≡ Some n)
  read_sequence row h none =
      by (sequence_in c row) refl
      (own-whole-none (ends_early row (required_columns c)) (is_text row) (is_read trips c row) (is_none (sequence_in c row)) (is_among (field_in row c.trip) trips.ids) (is_none (station_in stops c row)) h none)
    where
      by : (s : Option ℕ) → sequence_in c row ≡ s → is_none (sequence_in c row) ≡ false → (n : ℕ) × (sequence_in c row ≡ Some n)
      by None e f = absurd (true≢false (sym (ap is_none e) ∙ f))
      by (Some n) e f = (n, e)

  both : (a b : Bool) → (a && b) ≡ true → (a ≡ true) × (b ≡ true)
  both true true h = (refl, refl)
  both true false h = absurd (true≢false (sym h))
  both false b h = absurd (true≢false (sym h))

  same_number : (a b : Option ℕ) → is_same_number a b ≡ true → unwrap_or b 0 ≡ unwrap_or a 0
  same_number None b h = absurd (true≢false (sym h))
  same_number (Some a) None h = absurd (true≢false (sym h))
  same_number (Some a) (Some b) h = by a b h
    where
      by : (a b : ℕ) → eqb a b ≡ true → b ≡ a
      by a b h = grind (arith, nat_tests)

  pub same_place_entries : (row other : Row) → is_same_place trips c row other ≡ true → (is_read trips c other ≡ true) × (entry_in trips c other ≡ entry_in trips c row)
  same_place_entries row other h =
      let second = both (is_read trips c other && bytes_eq (field_in row c.trip) (field_in other c.trip)) (is_same_number (sequence_in c row) (sequence_in c other)) h in
      let first = both (is_read trips c other) (bytes_eq (field_in row c.trip) (field_in other c.trip)) second.0 in
      let trip : field_in row c.trip ≡ field_in other c.trip = same_bytes (field_in row c.trip) (field_in other c.trip) first.1 in
      let key : unwrap_or (trip_place trips (field_in other c.trip)) 0 ≡ unwrap_or (trip_place trips (field_in row c.trip)) 0 = ap (λ id. unwrap_or (trip_place trips id) 0) (sym trip) in
      let sequence : unwrap_or (sequence_in c other) 0 ≡ unwrap_or (sequence_in c row) 0 = same_number (sequence_in c row) (sequence_in c other) second.1 in
      (first.0, λ i. record { key = key i; sequence = sequence i })

  pub entries_same_place : (row other : Row) → is_read trips c row ≡ true → is_read trips c other ≡ true → own_reason trips stops c row ≡ None → own_reason trips stops c other ≡ None
      → entry_in trips c other ≡ entry_in trips c row → is_same_place trips c row other ≡ true
  entries_same_place row other r o good fine same =
      let a = read_place row r in
      let b = read_place other o in
      let places : b.0 ≡ a.0 =
      sym (ap (λ p. unwrap_or p 0) b.1) ∙ ap (λ (e : Entry). e.key) same ∙ ap (λ p. unwrap_or p 0) a.1 in
      let trip : field_in row c.trip ≡ field_in other c.trip =
      (placed_among trips.ids (field_in row c.trip) a.0 a.1).1 ∙ ap (λ (n : ℕ). get_or trips.ids n []) (sym places) ∙ sym (placed_among trips.ids (field_in other c.trip) b.0 b.1).1 in
      let m = read_sequence row r good in
      let n = read_sequence other o fine in
      let numbers : m.0 ≡ n.0 = sym (ap (λ p. unwrap_or p 0) m.1) ∙ sym (ap (λ (e : Entry). e.sequence) same) ∙ ap (λ p. unwrap_or p 0) n.1 in
      rw (o, bytes_same (field_in row c.trip) (field_in other c.trip) trip, m.1, n.1) (equal m.0 n.0 numbers)
    where
      equal : (a b : ℕ) → a ≡ b → eqb a b ≡ true
      equal a b e = grind (arith, nat_tests)

-- Reasons of rows by their places.

abbrev repeat_at : KnownTrips → List Row → ℕ → Bool
repeat_at trips rows zero = false
repeat_at trips rows (suc n) = is_read trips (stop_time_columns rows) (row_at rows (suc n)) && is_repeated trips (stop_time_columns rows) rows (suc n)

module _ (trips : KnownTrips) (stops : KnownStops) (rows : List Row) where
  abbrev columns : StopTimeColumns
  columns = stop_time_columns rows

  abbrev front : Row → List (Bool × Why)
  front row =
      (ends_early row (required_columns columns), WrongFields)
      ∷ (not (is_text row), NotUtf8)
      ∷ (is_read trips columns row && is_none (sequence_in columns row), BadWhole)
      ∷ (not (is_among (field_in row columns.trip) trips.ids), UnknownTrip)
      ∷ (is_read trips columns row && is_none (station_in stops columns row), UnknownStop)
      ∷ []

  reason_own : (p : ℕ) (why : Why) → own_reason_at trips stops rows p ≡ Some why → stop_times_reason trips stops rows p ≡ Some why
  reason_own zero why e = e
  reason_own (suc n) why e = first_met-front (front (row_at rows (suc n))) ((repeat_at trips rows (suc n), RepeatedSequence) ∷ []) why e

  reason_repeat : (p : ℕ) → own_reason_at trips stops rows p ≡ None → stop_times_reason trips stops rows p ≡ cond (repeat_at trips rows p) (Some RepeatedSequence) None
  reason_repeat zero e = e
  reason_repeat (suc n) e = first_met-back (front (row_at rows (suc n))) ((repeat_at trips rows (suc n), RepeatedSequence) ∷ []) e

  reads_row : (p : ℕ) → passes (is_read trips columns) rows p ≡ true → (1 ≤ p) × (is_read trips columns (row_at rows p) ≡ true)
  reads_row zero h = absurd (true≢false (sym h))
  reads_row (suc n) h = (omega arith, h)

  passes_row : (p : ℕ) → 1 ≤ p → is_read trips columns (row_at rows p) ≡ true → passes (is_read trips columns) rows p ≡ true
  passes_row zero from h = absurd (omega (arith, from))
  passes_row (suc n) from h = h

  own_at : (p : ℕ) → 1 ≤ p → own_reason_at trips stops rows p ≡ own_reason trips stops columns (row_at rows p)
  own_at zero from = absurd (omega (arith, from))
  own_at (suc n) from = refl

  sound : (n : ℕ) → n ≤ length rows → (p : ℕ) → p < n → repeat_at trips rows p ≡ true
      → (passes (is_read trips columns) rows p ≡ true) × (q : ℕ) × (q < p) × (passes (is_read trips columns) rows q ≡ true) × (entry_in trips columns (row_at rows q) ≡ entry_in trips columns (row_at rows p))
  sound n within zero l h = absurd (true≢false (sym h))
  sound n within (suc m) l h =
      let parts = both trips stops columns (is_read trips columns (row_at rows (suc m))) (is_repeated trips columns rows (suc m)) h in
      let found = some_before (is_same_place trips columns (row_at rows (suc m))) rows (suc m) (omega (arith, l, within)) parts.1 in
      let same = same_place_entries trips stops columns (row_at rows (suc m)) (row_at rows found.0) found.3 in
      (parts.0, found.0, found.2, passes_row found.0 found.1 same.0, same.1)

  complete : (n : ℕ) → n ≤ length rows → first_below (own_reason_at trips stops rows) n ≡ None → (p q : ℕ) → p < n → q < p → passes (is_read trips columns) rows q ≡ true
      → passes (is_read trips columns) rows p ≡ true → entry_in trips columns (row_at rows q) ≡ entry_in trips columns (row_at rows p) → repeat_at trips rows p ≡ true
  complete n within good zero q l h before here same = absurd (omega (arith, h))
  complete n within good (suc m) q l h before here same =
      let q_read = reads_row q before in
      let q_good = sym (own_at q q_read.0) ∙ first_below-none (own_reason_at trips stops rows) n q (omega (arith, h, l)) good in
      let p_good = first_below-none (own_reason_at trips stops rows) n (suc m) l good in
      rw (
        here,
        before_some (is_same_place trips columns (row_at rows (suc m))) rows (suc m) q (omega (arith, l, within)) q_read.0 h
            (entries_same_place trips stops columns (row_at rows (suc m)) (row_at rows q) here q_read.1 p_good q_good same),
      ) refl

  -- the first bad row, told the first repeat of what was read
  pub first_bad_is : (reads : Reads StationId) (repeat : Option ℕ) → 0 < length rows → AreReads trips stops rows reads
      → MatchOption repeat (AreDistinct reads.entries) (IsFirstRepeat reads.entries)
      → first_bad (stop_times_reason trips stops rows) rows
      ≡ first_refused (option_map (λ k. get_or reads.places k 0) repeat) (option_map (λ why. (reads.upto, why)) reads.stopped)
  first_bad_is reads repeat header are h =
      by repeat reads.stopped
      (subst (λ (es : List Entry). MatchOption repeat (AreDistinct es) (IsFirstRepeat es)) are.entries h)
      are.stopped
    where
      by : (repeat : Option ℕ) (stopped : Option Why)
          → MatchOption repeat (AreDistinct (map (entry_in trips columns) (filter (is_read trips columns) (rows_before reads.upto rows))))
          (IsFirstRepeat (map (entry_in trips columns) (filter (is_read trips columns) (rows_before reads.upto rows))))
          → MatchOption stopped (reads.upto ≡ length rows) (λ why. (reads.upto < length rows) × (own_reason_at trips stops rows reads.upto ≡ Some why))
          → first_bad (stop_times_reason trips stops rows) rows
          ≡ first_refused (option_map (λ k. get_or reads.places k 0) repeat) (option_map (λ why. (reads.upto, why)) stopped)
      by (Some k) stopped h s =
          let found = first_repeat (is_read trips columns) rows reads.upto are.within (entry_in trips columns) (repeat_at trips rows) (sound reads.upto are.within) (complete reads.upto are.within are.passed) k h in
          bad_by_repeat (stop_times_reason trips stops rows) (own_reason_at trips stops rows) (repeat_at trips rows) reason_own reason_repeat rows reads.upto
          (get_or (places_before (is_read trips columns) reads.upto rows) k 0) are.within are.passed found.1 found.2 found.3
          ∙ ap (λ (places : List ℕ). Some (get_or places k 0, RepeatedSequence)) (sym are.places)
      by None (Some why) h s =
          bad_by_itself (stop_times_reason trips stops rows) (own_reason_at trips stops rows) (repeat_at trips rows) reason_own reason_repeat rows reads.upto why s.0 are.passed s.1
          (no_repeat (is_read trips columns) rows reads.upto are.within (entry_in trips columns) (repeat_at trips rows) (sound reads.upto are.within) (complete reads.upto are.within are.passed) h)
      by None None h s =
          none_bad (stop_times_reason trips stops rows) (own_reason_at trips stops rows) (repeat_at trips rows) reason_own reason_repeat rows reads.upto header s are.passed
          (no_repeat (is_read trips columns) rows reads.upto are.within (entry_in trips columns) (repeat_at trips rows) (sound reads.upto are.within) (complete reads.upto are.within are.passed) h)

-- What is read of one more row.

pub entry_says : (trips : KnownTrips) (stops : KnownStops) (c : StopTimeColumns) (row : Row)
    → option_to_list (option_map (λ (r : Read StationId). r.entry) (read_in trips stops c row)) ≡ cond (is_read trips c row) (entry_in trips c row ∷ []) []
entry_says trips stops c row =
    elim (is_read trips c row) as (λ b. option_to_list (option_map (λ (r : Read StationId). r.entry) (cond b (Some (record { entry = entry_in trips c row; value = station_at stops c row })) None)) ≡ cond b (entry_in trips c row ∷ []) [])
    [ true ↦ refl | false ↦ refl ]

pub station_says : (trips : KnownTrips) (stops : KnownStops) (c : StopTimeColumns) (row : Row)
    → option_to_list (option_map (λ (r : Read StationId). r.value) (read_in trips stops c row)) ≡ cond (is_read trips c row) (station_at stops c row ∷ []) []
station_says trips stops c row =
    elim (is_read trips c row) as (λ b. option_to_list (option_map (λ (r : Read StationId). r.value) (cond b (Some (record { entry = entry_in trips c row; value = station_at stops c row })) None)) ≡ cond b (station_at stops c row ∷ []) [])
    [ true ↦ refl | false ↦ refl ]

pub read_says : (trips : KnownTrips) (stops : KnownStops) (c : StopTimeColumns) (row : Row) → is_some (read_in trips stops c row) ≡ is_read trips c row
read_says trips stops c row =
    let read : Read StationId = record { entry = entry_in trips c row; value = station_at stops c row } in
    elim (is_read trips c row) as (λ b. is_some (cond b (Some read) None) ≡ b)
    [ true ↦ refl | false ↦ refl ]

-- behind the header a row has its own reasons
pub own_behind : (trips : KnownTrips) (stops : KnownStops) (rows : List Row) (place : ℕ) → 1 ≤ place
    → own_reason_at trips stops rows place ≡ own_reason trips stops (stop_time_columns rows) (row_at rows place)
own_behind trips stops rows zero from = absurd (omega (arith, from))
own_behind trips stops rows (suc n) from = refl

-- the first repeat of what was read is one of the places
pub repeat_within : (trips : KnownTrips) (stops : KnownStops) (rows : List Row) (reads : Reads StationId) (repeat : Option ℕ) → AreReads trips stops rows reads
    → MatchOption repeat (AreDistinct reads.entries) (IsFirstRepeat reads.entries) → IfSome repeat (λ k. k < length reads.places)
repeat_within trips stops rows reads None are h = tt
repeat_within trips stops rows reads (Some k) are h =
    let c = stop_time_columns rows in
    let same : length reads.entries ≡ length reads.places = ap length are.entries ∙ counted_places (is_read trips c) rows reads.upto are.within (entry_in trips c) ∙ ap length (sym are.places) in
    omega (arith, h.within, same)

-- none is bad where nothing is refused: then all rows were read
pub none_refused : (repeat : Option ℕ) (places : ℕ → ℕ) (upto : ℕ) (stopped : Option Why)
    → first_refused (option_map places repeat) (option_map (λ why. (upto, why)) stopped) ≡ None → stopped ≡ None
none_refused None places upto None e = refl
none_refused None places upto (Some why) e = absurd cc
none_refused (Some k) places upto stopped e = absurd cc

pub all_read : (trips : KnownTrips) (stops : KnownStops) (rows : List Row) (reads : Reads StationId) → AreReads trips stops rows reads → reads.stopped ≡ None → reads.upto ≡ length rows
all_read trips stops rows reads are e =
    subst (λ s. MatchOption s (reads.upto ≡ length rows) (λ why. (reads.upto < length rows) × (own_reason_at trips stops rows reads.upto ≡ Some why))) e are.stopped

-- a refusal is the first bad row
pub refused : (trips : KnownTrips) (stops : KnownStops) (rows : List Row) (reads : Reads StationId) (repeat : Option ℕ) (bad : ℕ × Why) (fault : FeedFault) → 0 < length rows
    → AreReads trips stops rows reads → MatchOption repeat (AreDistinct reads.entries) (IsFirstRepeat reads.entries)
    → first_refused (option_map (λ k. get_or reads.places k 0) repeat) (option_map (λ why. (reads.upto, why)) reads.stopped) ≡ Some bad
    → fault ≡ faults.BadRow StopTimes (bad.0 + 1) bad.1 → Refuses never fault (stop_times_of trips stops rows)
refused trips stops rows reads repeat bad fault header are h found is =
    subst (λ f. Refuses never f (stop_times_of trips stops rows)) (sym is)
    (ap (λ b. unless_bad StopTimes b (trip_stations trips stops rows)) (first_bad_is trips stops rows reads repeat header are h ∙ found))
